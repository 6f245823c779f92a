-- Small random files and call lists with what the simulator makes of them. Written by `python3 -m sim.rows`; not by hand.
use Rattle.std.specs.Prelude.{List, [], ◌∷◌, ◌++◌}
use Rattle.rules.specs.declared.Call.TheVariants.{Instant, Mark}
use Rattle.plans.specs.Rows.{Row, recorded, refused, answered}
use Rattle.plans.specs.Plans.{task, spacing, release, none, interval, job, skipped}

unfoldable pub runs : List Row
runs =
    recorded (task 8 254 0 3 2 1 ++ release 4 8 ++ release 5 8 ++ release 7 8) (interval 4 7 0 none 0 none 8 1 none ++ skipped 8 7 ++
    interval 7 9 1 8 1 none none 0 none ++ job 8 4 7 10 0 ++ interval 9 13 0 none 0 8 8 1 none ++ interval 13 15 1 8 1 none none 0 none ++
    job 8 5 13 16 0 ++ interval 15 16 0 none 0 8 none 0 none) 184 186 ∷
    recorded (task 9 99 0 1 1 2 ++ spacing 9 11 ++ release 0 9 ++ release 3 9 ++ release 4 9 ++ release 7 9 ++ release 10 9 ++ release 15 9)
    (interval 0 1 0 none 0 none 9 1 none ++ interval 1 2 1 9 1 none none 0 none ++ skipped 9 3 ++ job 9 0 1 4 0 ++ skipped 9 4 ++ interval 2
    4 0 none 0 9 none 0 none ++ skipped 9 7 ++ skipped 9 10 ++ interval 15 16 1 none 0 none 9 1 none ++ interval 16 17 0 9 1 none none 0
    none ++ job 9 15 16 19 0 ++ interval 17 19 1 none 0 9 none 0 none) 238 240 ∷
    recorded (task 9 196 0 2 4 5 ++ task 23 170 1 3 4 4 ++ task 18 196 0 5 5 4 ++ spacing 9 1 ++ spacing 18 38 ++ release 1 9 ++ release 1
    23 ++ release 3 23 ++ release 4 18 ++ release 5 23 ++ release 10 9 ++ release 13 9 ++ release 14 18) (interval 1 4 0 none 0 none 23 1
    none ++ skipped 23 5 ++ interval 4 8 1 23 1 none 9 1 none ++ job 23 1 4 12 0 ++ skipped 9 13 ++ skipped 18 14 ++ interval 8 15 0 9 1 23
    23 1 none ++ job 9 1 8 20 0 ++ interval 15 25 1 23 1 9 18 1 none ++ job 23 3 15 29 1 ++ interval 25 31 0 18 1 23 9 1 none ++ job 18 4 25
    35 0 ++ interval 31 35 1 9 1 18 none 0 none ++ job 9 10 31 40 0 ++ interval 35 40 0 none 0 9 none 0 none) 333 335 ∷
    recorded (task 14 73 0 1 1 1 ++ task 13 69 1 1 1 1 ++ spacing 14 4 ++ spacing 13 4) ([]) 0 2 ∷
    recorded (task 28 96 0 1 1 1 ++ spacing 28 2) ([]) 0 2 ∷
    recorded (task 29 16 1 2 1 5 ++ task 6 117 0 1 1 1) ([]) 0 2 ∷
    recorded (task 8 188 0 1 2 1 ++ task 23 188 1 3 2 2 ++ task 16 188 1 2 2 1 ++ spacing 8 4 ++ spacing 23 1 ++ release 0 8 ++ release 1 16
    ++ release 5 8 ++ release 5 16 ++ release 5 23) (interval 0 1 0 none 0 none 8 1 none ++ interval 1 3 1 8 1 none 16 1 none ++ job 8 0 1 4
    0 ++ interval 3 5 0 16 1 8 none 0 none ++ job 16 1 3 6 0 ++ interval 5 7 1 none 0 16 8 1 none ++ interval 7 9 0 8 1 none 16 1 none ++
    job 8 5 7 10 0 ++ interval 9 13 1 16 1 8 23 1 none ++ job 16 5 9 14 0 ++ interval 13 15 0 23 1 16 none 0 none ++ job 23 5 13 17 0 ++
    interval 15 17 1 none 0 23 none 0 none) 327 329 ∷
    recorded (task 6 1 0 4 2 4 ++ task 1 255 1 2 2 3 ++ task 27 1 0 3 3 1 ++ spacing 6 15 ++ release 0 1) (interval 0 2 0 none 0 none 1 1
    none ++ interval 2 4 1 1 1 none none 0 none ++ job 1 0 2 7 0 ++ interval 4 7 0 none 0 1 none 0 none) 99 101 ∷
    recorded (task 27 0 1 2 1 2 ++ task 0 255 1 2 1 4 ++ release 0 0 ++ release 1 27 ++ release 5 27 ++ release 6 0) (interval 0 1 0 none 0
    none 0 2 27 ++ interval 1 4 1 27 2 none 0 1 none ++ job 27 1 3 6 0 ++ interval 4 8 0 0 1 27 27 1 none ++ job 0 0 4 12 0 ++ interval 8 14
    1 27 1 0 0 1 none ++ job 27 5 8 16 1 ++ interval 14 16 0 0 1 27 none 0 none ++ job 0 6 14 20 0 ++ interval 16 20 1 none 0 0 none 0 none)
    252 254 ∷
    refused (task 28 112 1 1 1 1 ++ task 18 112 0 1 1 1 ++ (3 ∷ 28 ∷ 5 ∷ 0 ∷ [])) 2 1 32 ∷
    recorded (task 3 90 0 1 1 1 ++ task 28 90 0 2 2 2 ++ task 29 61 1 2 1 1 ++ task 9 90 1 2 1 1 ++ spacing 9 3 ++ release 1 3) (interval 1
    2 0 none 0 none 3 1 none ++ interval 2 3 1 3 1 none none 0 none ++ job 3 1 2 4 0 ++ interval 3 4 0 none 0 3 none 0 none) 99 101 ∷
    recorded (task 5 0 1 4 2 1 ++ task 0 0 1 3 3 3 ++ spacing 5 21 ++ release 1 0 ++ release 1 5) (interval 1 4 0 none 0 none 0 1 none ++
    interval 4 8 1 0 1 none 5 1 none ++ job 0 1 4 11 0 ++ interval 8 11 0 5 1 0 none 0 none ++ job 5 1 8 12 0 ++ interval 11 12 1 none 0 5
    none 0 none) 150 152 ∷
    recorded (task 23 232 1 2 3 1 ++ task 27 26 1 1 3 3 ++ release 1 27 ++ release 7 23 ++ release 7 27) (interval 1 2 0 none 0 none 27 1
    none ++ interval 2 5 1 27 1 none none 0 none ++ job 27 1 2 8 0 ++ interval 5 9 0 none 0 27 27 1 none ++ interval 9 12 1 27 1 none 23 1
    none ++ job 27 7 9 15 0 ++ interval 12 15 0 23 1 27 none 0 none ++ job 23 7 12 16 0 ++ interval 15 16 1 none 0 23 none 0 none) 225 227 ∷
    recorded (task 9 127 1 3 5 3 ++ task 5 127 1 5 1 4 ++ task 20 127 1 4 5 3 ++ task 10 128 1 5 5 2 ++ release 3 10 ++ release 3 20 ++
    release 6 5 ++ release 8 10) (interval 3 7 0 none 0 none 20 1 none ++ interval 7 12 1 20 1 none 5 1 none ++ job 20 3 7 15 0 ++ interval
    12 20 0 5 1 20 10 1 none ++ job 5 6 12 24 0 ++ interval 20 25 1 10 1 5 none 0 none ++ job 10 3 20 27 0 ++ interval 25 32 0 none 0 10 10
    1 none ++ interval 32 37 1 10 1 none none 0 none ++ job 10 8 32 39 0 ++ interval 37 39 0 none 0 10 none 0 none) 276 278 ∷
    refused (spacing 4 6 ++ task 10 20 0 2 2 3 ++ spacing 10 11 ++ spacing 10 11 ++ task 4 20 0 2 3 2) 2 8 0 ∷
    recorded (task 4 186 1 2 3 3 ++ task 15 185 0 3 2 3 ++ task 3 185 1 1 1 1 ++ task 8 186 0 3 2 2 ++ spacing 3 3 ++ spacing 4 1 ++ spacing
    8 139421229 ++ spacing 15 31 ++ release 1 3 ++ release 2 4 ++ release 6 4 ++ release 6 8 ++ release 7 4 ++ release 9 8 ++ release 12 3
    ++ release 16 4) (interval 1 2 0 none 0 none 3 1 none ++ interval 2 4 1 3 1 none 4 1 none ++ job 3 1 2 5 0 ++ interval 4 7 0 4 1 3 none
    0 none ++ skipped 4 7 ++ skipped 8 9 ++ job 4 2 4 10 0 ++ interval 7 12 1 none 0 4 4 1 none ++ interval 12 15 0 4 1 none 3 1 none ++ job
    4 6 12 18 0 ++ interval 15 21 1 3 1 4 8 1 none ++ job 3 12 15 22 1 ++ interval 21 24 0 8 1 3 4 1 none ++ job 8 6 21 26 0 ++ interval 24
    27 1 4 1 8 none 0 none ++ job 4 16 24 30 0 ++ interval 27 30 0 none 0 4 none 0 none) 398 400 ∷
    recorded (task 5 254 0 1 4 2 ++ task 9 254 0 1 4 1 ++ task 18 254 0 1 4 3 ++ task 1 254 0 3 1 5 ++ spacing 9 999999999 ++ release 0 18
    ++ release 1 9 ++ release 9 18 ++ release 11 5 ++ release 11 18 ++ release 12 1 ++ release 12 9 ++ release 15 18) (interval 0 1 0 none 0
    none 18 1 none ++ interval 1 5 1 18 1 none 9 1 none ++ job 18 0 1 8 0 ++ interval 5 9 0 9 1 18 none 0 none ++ job 9 1 5 10 0 ++ interval
    9 11 1 none 0 9 18 1 none ++ skipped 9 12 ++ interval 11 15 0 18 1 none 5 1 none ++ skipped 18 15 ++ job 18 9 11 18 0 ++ interval 15 19
    1 5 1 18 18 1 none ++ job 5 11 15 21 0 ++ interval 19 24 0 18 1 5 1 1 none ++ job 18 11 19 27 0 ++ interval 24 27 1 1 1 18 none 0 none
    ++ job 1 12 24 32 0 ++ interval 27 32 0 none 0 1 none 0 none) 398 400 ∷
    recorded (task 26 176 0 1 1 1 ++ task 9 214 1 1 1 1 ++ task 14 26 1 1 1 1 ++ release 0 26 ++ release 2 14 ++ release 2 26 ++ release 7 9
    ++ release 8 26) (interval 0 1 0 none 0 none 26 1 none ++ interval 1 2 1 26 1 none none 0 none ++ job 26 0 1 3 0 ++ interval 2 4 0 none
    0 26 14 1 none ++ interval 4 5 1 14 1 none 26 1 none ++ job 14 2 4 6 0 ++ interval 5 6 0 26 1 14 none 0 none ++ job 26 2 5 7 0 ++
    interval 6 8 1 none 0 26 9 1 none ++ interval 8 9 0 9 1 none 26 1 none ++ job 9 7 8 10 0 ++ interval 9 10 1 26 1 9 none 0 none ++ job 26
    8 9 11 1 ++ interval 10 11 0 none 0 26 none 0 none) 351 353 ∷
    recorded (task 21 127 1 5 3 5 ++ task 11 127 1 3 3 4 ++ task 14 127 1 4 4 4 ++ release 2 21) (interval 2 7 0 none 0 none 21 1 none ++
    interval 7 10 1 21 1 none none 0 none ++ job 21 2 7 15 0 ++ interval 10 15 0 none 0 21 none 0 none) 99 101 ∷
    refused (task 18 44 1 3 2 3 ++ task 5 149 0 3 2 3 ++ task 15 64 1 2 3 3 ++ spacing 15 10 ++ spacing 18 20 ++ spacing 5 1 ++ spacing 5
    1000000001 ++ release 1 5 ++ release 4 5 ++ release 6 18) 2 19 66 ∷
    recorded (task 6 10 0 2 1 1 ++ task 25 8 0 1 2 1 ++ spacing 6 8 ++ spacing 25 2) ([]) 0 2 ∷
    recorded (task 6 75 0 2 1 1 ++ spacing 6 1 ++ release 0 6 ++ release 1 6 ++ release 4 6 ++ release 6 6 ++ release 8 6) (interval 0 2 0
    none 0 none 6 1 none ++ interval 2 3 1 6 1 none none 0 none ++ job 6 0 2 4 0 ++ interval 3 6 0 none 0 6 6 1 none ++ skipped 6 6 ++
    interval 6 7 1 6 1 none none 0 none ++ job 6 1 6 8 0 ++ interval 7 10 0 none 0 6 6 1 none ++ interval 10 11 1 6 1 none none 0 none ++
    job 6 4 10 12 0 ++ interval 11 14 0 none 0 6 6 1 none ++ interval 14 15 1 6 1 none none 0 none ++ job 6 8 14 16 0 ++ interval 15 16 0
    none 0 6 none 0 none) 334 336 ∷
    recorded (task 16 255 0 2 2 2 ++ task 19 255 1 1 2 1 ++ task 8 255 1 2 1 2 ++ spacing 19 10) ([]) 0 2 ∷
    recorded (task 25 247 0 2 1 1 ++ task 4 250 1 1 1 2 ++ release 0 4 ++ release 1 25) (interval 0 1 0 none 0 none 4 1 none ++ interval 1 3
    1 4 1 none 25 1 none ++ job 4 0 1 5 0 ++ interval 3 5 0 25 1 4 none 0 none ++ job 25 1 3 6 1 ++ interval 5 6 1 none 0 25 none 0 none)
    150 152 ∷
    refused (task 6 196 255 3 2 1 ++ task 31 155 1 5 2 4 ++ task 12 155 1 2 2 2 ++ release 0 12) 2 6 0 ∷
    recorded (task 17 255 0 2 2 2 ++ task 23 255 1 2 2 2 ++ task 25 254 1 2 2 2 ++ spacing 17 6 ++ spacing 23 11 ++ release 0 23 ++ release
    2 25 ++ release 3 25 ++ release 6 25 ++ release 12 25) (interval 0 2 0 none 0 none 23 1 none ++ interval 2 4 1 23 1 none 25 1 none ++
    job 23 0 2 6 0 ++ skipped 25 6 ++ interval 4 6 0 25 1 23 none 0 none ++ job 25 2 4 8 1 ++ interval 6 10 1 none 0 25 25 1 none ++
    interval 10 12 0 25 1 none none 0 none ++ job 25 3 10 14 0 ++ interval 12 16 1 none 0 25 25 1 none ++ interval 16 18 0 25 1 none none 0
    none ++ job 25 12 16 20 0 ++ interval 18 20 1 none 0 25 none 0 none) 310 312 ∷
    recorded (task 8 144 0 1 2 1 ++ release 1 8) (interval 1 2 0 none 0 none 8 1 none ++ interval 2 4 1 8 1 none none 0 none ++ job 8 1 2 5
    0 ++ interval 4 5 0 none 0 8 none 0 none) 99 101 ∷
    recorded (task 20 60 0 1 1 1 ++ task 18 62 0 1 1 1 ++ spacing 20 2 ++ spacing 18 12 ++ release 1 18 ++ release 3 20 ++ release 4 20 ++
    release 7 18 ++ release 10 20) (interval 1 2 0 none 0 none 18 1 none ++ interval 2 3 1 18 1 none none 0 none ++ job 18 1 2 4 0 ++
    skipped 20 4 ++ interval 3 5 0 none 0 18 20 1 none ++ interval 5 6 1 20 1 none none 0 none ++ job 20 3 5 7 0 ++ skipped 18 7 ++ interval
    6 7 0 none 0 20 none 0 none ++ interval 10 11 1 none 0 none 20 1 none ++ interval 11 12 0 20 1 none none 0 none ++ job 20 10 11 13 0 ++
    interval 12 13 1 none 0 20 none 0 none) 293 295 ∷
    recorded (task 27 127 0 3 1 1 ++ task 25 127 0 3 3 1) ([]) 0 2 ∷
    recorded (task 1 27 1 1 4 5 ++ task 29 30 1 3 1 4 ++ task 13 30 1 4 4 2 ++ spacing 29 1 ++ release 2 13) (interval 2 6 0 none 0 none 13
    1 none ++ interval 6 10 1 13 1 none none 0 none ++ job 13 2 6 12 0 ++ interval 10 12 0 none 0 13 none 0 none) 99 101 ∷
    recorded (task 28 0 1 4 5 1 ++ task 13 255 0 5 2 5 ++ release 0 13 ++ release 2 13) (interval 0 5 0 none 0 none 13 1 none ++ interval 5
    7 1 13 1 none none 0 none ++ job 13 0 5 12 0 ++ interval 7 17 0 none 0 13 13 1 none ++ interval 17 19 1 13 1 none none 0 none ++ job 13
    2 17 24 0 ++ interval 19 24 0 none 0 13 none 0 none) 174 176 ∷
    recorded (task 4 61 0 1 2 1 ++ task 18 62 1 2 1 1 ++ release 1 4 ++ release 2 18) (interval 1 2 0 none 0 none 4 1 none ++ interval 2 4 1
    4 1 none 18 1 none ++ job 4 1 2 5 0 ++ interval 4 5 0 18 1 4 none 0 none ++ job 18 2 4 6 0 ++ interval 5 6 1 none 0 18 none 0 none) 150
    152 ∷
    recorded (task 28 127 1 2 2 1 ++ task 17 255 1 2 2 2 ++ task 22 127 1 2 2 2 ++ spacing 22 2 ++ spacing 28 5 ++ release 0 28 ++ release 1
    28 ++ release 6 17 ++ release 10 28 ++ release 11 22) (skipped 28 1 ++ interval 0 2 0 none 0 none 28 1 none ++ interval 2 4 1 28 1 none
    none 0 none ++ job 28 0 2 5 0 ++ interval 4 5 0 none 0 28 none 0 none ++ interval 6 8 1 none 0 none 17 1 none ++ interval 8 10 0 17 1
    none none 0 none ++ job 17 6 8 12 0 ++ interval 10 14 1 none 0 17 28 1 none ++ interval 14 16 0 28 1 none 22 1 none ++ job 28 10 14 17 0
    ++ interval 16 18 1 22 1 28 none 0 none ++ job 22 11 16 20 0 ++ interval 18 20 0 none 0 22 none 0 none) 334 336 ∷
    recorded (task 0 170 1 2 1 5 ++ task 2 170 1 3 5 1 ++ task 26 170 0 4 2 4 ++ task 22 224 0 2 1 3 ++ spacing 2 25 ++ release 0 0 ++
    release 5 2 ++ release 6 2 ++ release 7 26 ++ release 10 22 ++ release 11 0) (interval 0 2 0 none 0 none 0 1 none ++ interval 2 3 1 0 1
    none none 0 none ++ skipped 2 6 ++ job 0 0 2 8 0 ++ interval 3 11 0 none 0 0 2 1 none ++ interval 11 16 1 2 1 none 26 1 none ++ job 2 5
    11 17 0 ++ interval 16 19 0 26 1 2 0 1 none ++ job 26 7 16 23 0 ++ interval 19 25 1 0 1 26 22 1 none ++ job 0 11 19 30 0 ++ interval 25
    30 0 22 1 0 none 0 none ++ job 22 10 25 33 0 ++ interval 30 33 1 none 0 22 none 0 none) 337 339 ∷
    refused (task 17 52 1 3 2 1 ++ release 2 17 ++ release 3 17 ++ release 4 17 ++ release 9 17 ++ release 14 17 ++ release 15 17 ++ spacing
    17 0) 2 3 76 ∷
    recorded (task 28 255 1 2 5 1 ++ task 10 1 1 1 1 2 ++ task 4 127 0 3 4 1 ++ release 3 28 ++ release 6 28 ++ release 9 4 ++ release 10 10
    ++ release 10 28 ++ release 12 10 ++ release 14 28) (interval 3 5 0 none 0 none 28 1 none ++ interval 5 10 1 28 1 none none 0 none ++
    skipped 28 10 ++ job 28 3 5 11 0 ++ interval 10 12 0 none 0 28 10 1 none ++ interval 12 15 1 10 1 none 4 1 none ++ job 10 10 12 17 0 ++
    interval 15 19 0 4 1 10 10 1 none ++ job 4 9 15 20 1 ++ interval 19 22 1 10 1 4 28 1 none ++ job 10 12 19 24 1 ++ interval 22 27 0 28 1
    10 none 0 none ++ job 28 6 22 28 0 ++ interval 27 30 1 none 0 28 28 1 none ++ interval 30 35 0 28 1 none none 0 none ++ job 28 14 30 36
    0 ++ interval 35 36 1 none 0 28 none 0 none) 412 414 ∷
    recorded (task 26 240 1 1 3 3 ++ task 5 151 1 5 4 1 ++ task 16 245 1 3 1 3 ++ task 29 62 1 3 5 4 ++ release 2 16 ++ release 3 29 ++
    release 4 29 ++ release 8 5 ++ release 9 16 ++ release 10 16 ++ release 12 5 ++ release 15 26) (interval 2 3 0 none 0 none 16 2 29 ++
    skipped 16 10 ++ interval 3 11 1 29 2 none 16 3 5 ++ job 29 3 6 15 0 ++ interval 11 20 0 5 2 29 29 1 none ++ job 5 8 16 21 0 ++ interval
    20 26 1 29 1 5 5 1 none ++ job 29 4 20 30 1 ++ interval 26 31 0 5 1 29 26 1 none ++ job 5 12 26 32 0 ++ interval 31 35 1 26 1 5 16 1
    none ++ job 26 15 31 38 0 ++ interval 35 38 0 16 1 26 none 0 none ++ job 16 2 35 41 0 ++ interval 38 44 1 none 0 16 16 1 none ++
    interval 44 45 0 16 1 none none 0 none ++ job 16 9 44 48 0 ++ interval 45 48 1 none 0 16 none 0 none) 439 441 ∷
    recorded (task 23 57 1 1 2 1 ++ release 0 23 ++ release 1 23 ++ release 2 23 ++ release 4 23 ++ release 6 23 ++ release 10 23) (interval
    0 1 0 none 0 none 23 1 none ++ skipped 23 2 ++ interval 1 3 1 23 1 none none 0 none ++ job 23 0 1 4 0 ++ interval 3 5 0 none 0 23 23 1
    none ++ skipped 23 6 ++ interval 5 7 1 23 1 none none 0 none ++ job 23 1 5 8 0 ++ interval 7 9 0 none 0 23 23 1 none ++ interval 9 11 1
    23 1 none none 0 none ++ job 23 4 9 12 0 ++ interval 11 13 0 none 0 23 23 1 none ++ interval 13 15 1 23 1 none none 0 none ++ job 23 10
    13 16 0 ++ interval 15 16 0 none 0 23 none 0 none) 344 346 ∷
    recorded (task 24 43 1 3 1 1 ++ spacing 24 5 ++ release 2 24) (interval 2 5 0 none 0 none 24 1 none ++ interval 5 6 1 24 1 none none 0
    none ++ job 24 2 5 7 0 ++ interval 6 7 0 none 0 24 none 0 none) 99 101 ∷
    refused (task 8 139 0 1 1 1 ++ task 12 114 0 1 1 1 ++ task 13 33 0 1 1 1 ++ task 14 114 0 1 1 1 ++ task 12 114 0 1 1 1 ++ spacing 13 3
    ++ spacing 14 6 ++ release 5 14 ++ release 6 12 ++ release 6 14) 2 4 64 ∷
    answered (task 5 254 1 2 1 2) (Instant 575941046 0 ∷ Instant 575941047 0 ∷ Instant 575941048 0 ∷ Instant 575941049 0 ∷ Mark 5 1 ∷
    Instant 1000000000 0 ∷ []) (0 ∷ 0 ∷ 0 ∷ 0 ∷ 0 ∷ 0 ∷ 0 ∷ 0 ∷ 0 ∷ 0 ∷ 0 ∷ 0 ∷ 0 ∷ []) ([]) ∷
    answered (task 5 252 0 2 5 4 ++ task 0 252 0 5 1 5 ++ task 13 252 0 1 5 4 ++ task 9 252 0 4 3 5) (Instant 0 8193 ∷ Instant 4 8193 ∷
    Instant 5 16777216 ∷ Instant 5 0 ∷ Instant 6 0 ∷ []) (0 ∷ 0 ∷ 0 ∷ 0 ∷ 5 ∷ 0 ∷ 0 ∷ 5 ∷ 16 ∷ 0 ∷ 0 ∷ 6 ∷ 0 ∷ 0 ∷ 11 ∷ []) (interval 0 5 0
    none 0 none 0 1 none ++ interval 5 6 1 0 1 none 13 1 none) ∷
    answered (task 2 77 0 1 2 1) (Instant 828169812 4 ∷ Instant 828169813 0 ∷ Instant 18446744073709551615 0 ∷ Instant 828169815 0 ∷ Instant
    828169816 0 ∷ Instant 828169817 0 ∷ Instant 828169819 0 ∷ Mark 2 1 ∷ Mark 2 0 ∷ []) (0 ∷ 0 ∷ 0 ∷ 0 ∷ 828169813 ∷ 0 ∷ 0 ∷ 828169815 ∷ 15
    ∷ 0 ∷ 0 ∷ 828169816 ∷ 0 ∷ 0 ∷ 0 ∷ 0 ∷ 0 ∷ 0 ∷ 0 ∷ 0 ∷ []) (interval 828169812 828169813 0 none 0 none 2 1 none ++ interval 828169813
    828169815 1 2 1 none none 0 none ++ job 2 828169812 828169813 828169816 0 ++ interval 828169815 828169816 0 none 0 2 none 0 none) ∷
    answered (task 4 11 0 1 1 2 ++ task 17 218 0 1 1 2 ++ task 20 186 0 1 1 2 ++ task 1 98 0 2 2 2 ++ spacing 4 1 ++ spacing 1 1 ++ spacing
    17 8) (Instant 0 0 ∷ Instant 2 0 ∷ Instant 3 0 ∷ Instant 4 0 ∷ []) (0 ∷ 0 ∷ 0 ∷ 0 ∷ 0 ∷ 0 ∷ 0 ∷ 0 ∷ 0 ∷ 0 ∷ []) ([]) ∷
    answered (task 7 65 0 4 1 5 ++ task 17 180 0 1 3 2) (Instant 0 0 ∷ Instant 5 128 ∷ Instant 8 131072 ∷ Instant 9 0 ∷ Instant 10 0 ∷
    Instant 13 0 ∷ Instant 15 128 ∷ Instant 19 0 ∷ Instant 20 0 ∷ Mark 7 1 ∷ []) (0 ∷ 0 ∷ 0 ∷ 0 ∷ 0 ∷ 0 ∷ 9 ∷ 0 ∷ 0 ∷ 9 ∷ 0 ∷ 0 ∷ 10 ∷ 0 ∷ 0
    ∷ 13 ∷ 0 ∷ 0 ∷ 15 ∷ 0 ∷ 0 ∷ 19 ∷ 0 ∷ 0 ∷ 20 ∷ 0 ∷ 0 ∷ 21 ∷ 17 ∷ []) (interval 5 9 0 none 0 none 7 1 none ++ interval 9 10 1 7 1 none 17
    1 none ++ job 7 5 9 15 0 ++ interval 10 19 0 17 1 7 7 1 none) ∷
    answered (task 15 127 1 2 2 3 ++ task 11 127 1 3 3 2 ++ task 2 255 1 2 3 2 ++ task 26 1 0 3 2 1 ++ spacing 2 1 ++ spacing 11 1) (Instant
    346352368 67141636 ∷ Instant 346352373 0 ∷ Mark 11 1 ∷ Instant 346352369 34820 ∷ Instant 346352390 67108868 ∷ Instant 346352371 34820 ∷
    Instant 346352372 34816 ∷ Instant 346352373 2052 ∷ Instant 346352374 67143684 ∷ []) (0 ∷ 0 ∷ 0 ∷ 0 ∷ 346352371 ∷ 15 ∷ 0 ∷ 0 ∷ 0 ∷
    346352371 ∷ 15 ∷ 0 ∷ 32772 ∷ 346352373 ∷ 0 ∷ 34816 ∷ 346352373 ∷ 0 ∷ 2052 ∷ 346352374 ∷ 0 ∷ 34820 ∷ 346352375 ∷ []) (interval 346352368
    346352371 0 none 0 none 26 1 none ++ skipped 2 346352371 ++ skipped 15 346352371 ++ skipped 11 346352372 ++ skipped 15 346352372 ++
    interval 346352371 346352373 1 26 1 none 15 1 none ++ skipped 2 346352373 ++ skipped 11 346352373 ++ job 26 346352368 346352371
    346352374 0 ++ skipped 2 346352374 ++ skipped 11 346352374 ++ skipped 15 346352374) ∷
    answered (task 12 1 0 2 1 1) (Instant 1 4096 ∷ Instant 3 0 ∷ Mark 12 0 ∷ Instant 4 0 ∷ Instant 5 0 ∷ Instant 6 0 ∷ Instant 7 0 ∷ Instant
    8 0 ∷ Instant 10 4096 ∷ Instant 12 0 ∷ Mark 12 0 ∷ Mark 12 1 ∷ []) (0 ∷ 0 ∷ 0 ∷ 0 ∷ 3 ∷ 0 ∷ 0 ∷ 4 ∷ 17 ∷ 0 ∷ 0 ∷ 5 ∷ 0 ∷ 0 ∷ 0 ∷ 0 ∷ 0 ∷
    0 ∷ 0 ∷ 0 ∷ 0 ∷ 0 ∷ 12 ∷ 0 ∷ 0 ∷ 13 ∷ 17 ∷ 17 ∷ []) (interval 1 3 0 none 0 none 12 1 none ++ interval 3 4 1 12 1 none none 0 none ++ job
    12 1 3 5 0 ++ interval 4 5 0 none 0 12 none 0 none ++ interval 10 12 1 none 0 none 12 1 none) ∷
    answered (task 7 79 0 1 1 5 ++ task 31 82 1 4 2 5) (Instant 246267891 0 ∷ Instant 246267892 0 ∷ Instant 246267893 128 ∷ Instant
    246267894 0 ∷ Instant 246267895 0 ∷ Instant 246267899 0 ∷ Instant 246267901 2147483648 ∷ Instant 246267900 0 ∷ Instant 246267909 128 ∷
    Instant 246267910 0 ∷ Mark 7 0 ∷ Instant 246267911 2147483648 ∷ []) (0 ∷ 0 ∷ 0 ∷ 0 ∷ 0 ∷ 0 ∷ 0 ∷ 0 ∷ 246267894 ∷ 0 ∷ 0 ∷ 246267895 ∷ 0 ∷
    0 ∷ 246267900 ∷ 0 ∷ 0 ∷ 246267900 ∷ 15 ∷ 0 ∷ 0 ∷ 0 ∷ 0 ∷ 246267910 ∷ 0 ∷ 0 ∷ 246267911 ∷ 17 ∷ 0 ∷ 0 ∷ 246267916 ∷ []) (interval
    246267893 246267894 0 none 0 none 7 1 none ++ interval 246267894 246267895 1 7 1 none none 0 none ++ job 7 246267893 246267894 246267900
    0 ++ interval 246267895 246267900 0 none 0 7 none 0 none ++ interval 246267909 246267910 1 none 0 none 7 1 none ++ interval 246267910
    246267911 0 7 1 none none 0 none) ∷
    answered (task 17 225 1 4 1 4 ++ task 0 225 1 1 5 4 ++ task 20 225 1 2 5 1 ++ task 13 4 1 2 2 5 ++ spacing 13 9) (Mark 32 2 ∷ Instant 0
    0 ∷ Instant 1 0 ∷ []) (0 ∷ 0 ∷ 16 ∷ 0 ∷ 0 ∷ 0 ∷ 0 ∷ []) ([]) ∷
    answered (task 19 223 0 1 2 1 ++ task 18 226 0 3 3 1 ++ task 17 225 0 2 3 1) (Instant 0 0 ∷ Instant 0 0 ∷ Instant 1 262144 ∷ Instant
    16073740076438783345 786432 ∷ []) (0 ∷ 0 ∷ 0 ∷ 0 ∷ 14 ∷ 0 ∷ 0 ∷ 4 ∷ 10 ∷ []) ([]) ∷
    answered (task 11 83 0 3 5 3 ++ task 4 9 0 1 1 4 ++ task 20 149 0 5 5 3 ++ spacing 20 1 ++ spacing 11 13 ++ spacing 4 1) (Instant 0 0 ∷
    Instant 1 0 ∷ Instant 9 16 ∷ Mark 4 0 ∷ Instant 10 16 ∷ Instant 11 0 ∷ Instant 12 16 ∷ Instant 15 16 ∷ Mark 20 1 ∷ Instant 16 2064 ∷
    Instant 17 0 ∷ []) (0 ∷ 0 ∷ 0 ∷ 0 ∷ 0 ∷ 0 ∷ 0 ∷ 0 ∷ 10 ∷ 17 ∷ 0 ∷ 0 ∷ 11 ∷ 0 ∷ 0 ∷ 15 ∷ 0 ∷ 16 ∷ 15 ∷ 0 ∷ 0 ∷ 16 ∷ 0 ∷ 0 ∷ 16 ∷ 17 ∷ 0 ∷
    0 ∷ 19 ∷ []) (interval 9 10 0 none 0 none 4 1 none ++ interval 10 11 1 4 1 none none 0 none ++ skipped 4 12 ++ job 4 9 10 15 0 ++
    interval 11 16 0 none 0 4 4 1 none ++ skipped 4 16) ∷
    answered (task 2 138 1 1 2 2 ++ spacing 2 13) (Instant 999999999 0 ∷ Instant 1000000004 0 ∷ []) (0 ∷ 0 ∷ 0 ∷ 0 ∷ 0 ∷ 0 ∷ []) ([]) ∷
    answered (task 27 128 1 1 1 1 ++ spacing 27 2) (Instant 0 0 ∷ Instant 2 0 ∷ Instant 3 0 ∷ Instant 4 0 ∷ Instant 7 0 ∷ Instant 8 0 ∷ Mark
    27 0 ∷ Mark 27 1 ∷ Instant 9 0 ∷ Instant 11 0 ∷ Instant 12 0 ∷ []) (0 ∷ 0 ∷ 0 ∷ 0 ∷ 0 ∷ 0 ∷ 0 ∷ 0 ∷ 0 ∷ 0 ∷ 0 ∷ 0 ∷ 0 ∷ 0 ∷ 0 ∷ 0 ∷ 0 ∷
    0 ∷ 0 ∷ 0 ∷ 0 ∷ 0 ∷ []) ([]) ∷
    answered (task 30 195 1 4 3 3 ++ task 26 218 0 4 1 3 ++ task 29 173 1 2 3 3 ++ task 15 8 0 1 2 5 ++ spacing 30 1) (Instant 0 32768 ∷
    Instant 1 1073741824 ∷ Instant 2 1610612736 ∷ []) (0 ∷ 0 ∷ 0 ∷ 0 ∷ 1 ∷ 0 ∷ 0 ∷ 3 ∷ 0 ∷ 0 ∷ 3 ∷ []) (interval 0 1 0 none 0 none 15 1
    none) ∷
    answered (task 17 254 1 1 2 2 ++ task 8 128 0 2 2 2 ++ task 27 255 1 1 1 2 ++ spacing 27 11 ++ spacing 8 8 ++ spacing 17 2) (Instant 1 0
    ∷ Mark 27 0 ∷ Instant 4 131072 ∷ Instant 5 0 ∷ Instant 7 134348800 ∷ Instant 9 0 ∷ Instant 10 0 ∷ Instant 11 0 ∷ []) (0 ∷ 0 ∷ 0 ∷ 0 ∷ 0
    ∷ 0 ∷ 0 ∷ 5 ∷ 0 ∷ 0 ∷ 7 ∷ 0 ∷ 0 ∷ 9 ∷ 0 ∷ 0 ∷ 10 ∷ 0 ∷ 0 ∷ 11 ∷ 0 ∷ 0 ∷ 12 ∷ []) (interval 4 5 0 none 0 none 17 1 none ++ interval 5 7 1
    17 1 none none 0 none ++ job 17 4 5 9 0 ++ interval 7 10 0 none 0 17 17 1 none) ∷
    answered (task 12 188 0 1 1 1 ++ spacing 12 3) (Instant 1 4096 ∷ Instant 2 0 ∷ Instant 3 0 ∷ Instant 4 0 ∷ []) (0 ∷ 0 ∷ 0 ∷ 0 ∷ 2 ∷ 0 ∷
    0 ∷ 3 ∷ 0 ∷ 0 ∷ 4 ∷ 0 ∷ 0 ∷ []) (interval 1 2 0 none 0 none 12 1 none ++ interval 2 3 1 12 1 none none 0 none ++ job 12 1 2 4 0 ++
    interval 3 4 0 none 0 12 none 0 none) ∷
    answered (task 6 223 1 1 1 1 ++ task 4 17 0 2 1 1 ++ task 25 17 0 2 1 1) (Instant 0 0 ∷ Instant 1 64 ∷ Mark 6 0 ∷ Mark 4 0 ∷ Instant 2
    33554496 ∷ Instant 3 64 ∷ Instant 4 80 ∷ []) (0 ∷ 0 ∷ 0 ∷ 0 ∷ 0 ∷ 0 ∷ 2 ∷ 17 ∷ 0 ∷ 0 ∷ 0 ∷ 3 ∷ 0 ∷ 64 ∷ 4 ∷ 0 ∷ 64 ∷ 5 ∷ []) (interval 1
    2 0 none 0 none 6 1 none ++ skipped 6 3 ++ interval 2 4 1 6 1 none 25 1 none ++ skipped 6 4) ∷
    answered (task 14 54 1 2 1 2 ++ task 21 51 1 1 2 1 ++ task 30 51 0 2 2 1) (Instant 999999998 1073741824 ∷ Instant 999999999 0 ∷ Mark 14
    0 ∷ Instant 1 3510655479 ∷ Instant 1000000000 16384 ∷ Instant 1000000001 0 ∷ Mark 30 3 ∷ Instant 1000000002 0 ∷ Mark 21 0 ∷ Instant
    1000000003 0 ∷ Instant 1000000004 0 ∷ []) (0 ∷ 0 ∷ 0 ∷ 0 ∷ 1000000000 ∷ 0 ∷ 0 ∷ 1000000000 ∷ 0 ∷ 16 ∷ 0 ∷ 0 ∷ 1000000002 ∷ 0 ∷ 0 ∷
    1000000002 ∷ 6 ∷ 0 ∷ 0 ∷ 1000000003 ∷ 0 ∷ 0 ∷ 0 ∷ 1000000005 ∷ 0 ∷ 0 ∷ 1000000005 ∷ []) (interval 999999998 1000000000 0 none 0 none 30
    1 none ++ interval 1000000000 1000000002 1 30 1 none 14 1 none ++ job 30 999999998 1000000000 1000000003 0 ++ interval 1000000002
    1000000003 0 14 1 30 none 0 none) ∷
    answered (task 24 128 0 3 1 5) (Instant 0 0 ∷ Instant 1 0 ∷ Instant 3 0 ∷ Instant 4 0 ∷ Instant 12 16777216 ∷ Instant 15 0 ∷ Instant 16
    16777216 ∷ Instant 20 0 ∷ []) (0 ∷ 0 ∷ 0 ∷ 0 ∷ 0 ∷ 0 ∷ 0 ∷ 0 ∷ 0 ∷ 0 ∷ 0 ∷ 0 ∷ 15 ∷ 0 ∷ 0 ∷ 16 ∷ 0 ∷ 0 ∷ 21 ∷ 0 ∷ 0 ∷ 21 ∷ []) (interval
    12 15 0 none 0 none 24 1 none ++ interval 15 16 1 24 1 none none 0 none) ∷
    answered (task 27 247 1 2 2 2 ++ task 23 121 1 2 1 2) (Instant 0 134217728 ∷ Instant 2 8388608 ∷ Instant 4 0 ∷ Instant 5 0 ∷ Instant 6 0
    ∷ Instant 8 0 ∷ []) (0 ∷ 0 ∷ 0 ∷ 0 ∷ 2 ∷ 0 ∷ 0 ∷ 4 ∷ 0 ∷ 0 ∷ 5 ∷ 0 ∷ 0 ∷ 6 ∷ 0 ∷ 0 ∷ 8 ∷ 0 ∷ 0 ∷ []) (interval 0 2 0 none 0 none 27 1
    none ++ interval 2 4 1 27 1 none 23 1 none ++ job 27 0 2 6 0 ++ interval 4 6 0 23 1 27 none 0 none ++ job 23 2 4 8 1 ++ interval 6 8 1
    none 0 23 none 0 none) ∷
    answered (task 3 121 1 1 1 1 ++ task 20 132 1 2 1 2 ++ task 28 198 1 1 1 1 ++ task 14 222 1 2 1 1 ++ spacing 14 2 ++ spacing 20 1 ++
    spacing 28 3 ++ spacing 3 3) (Instant 3 0 ∷ Mark 14 1 ∷ Instant 4 0 ∷ Instant 409 0 ∷ Instant 413 16384 ∷ []) (0 ∷ 0 ∷ 0 ∷ 0 ∷ 0 ∷ 0 ∷ 0
    ∷ 0 ∷ 0 ∷ 0 ∷ 0 ∷ 415 ∷ []) ([]) ∷
    answered (task 31 214 1 1 4 2 ++ task 30 215 1 2 1 3) (Instant 7 0 ∷ Instant 9 0 ∷ Instant 9 0 ∷ Instant 11 0 ∷ Mark 30 0 ∷ []) (0 ∷ 0 ∷
    0 ∷ 0 ∷ 0 ∷ 0 ∷ 14 ∷ 0 ∷ 0 ∷ 0 ∷ []) ([]) ∷
    answered (task 27 124 0 3 4 4 ++ task 24 224 1 1 4 5) (Instant 4 134217728 ∷ Instant 6 16777216 ∷ Instant 7 16777216 ∷ Instant 8
    16777216 ∷ Instant 11 16777216 ∷ Mark 27 2 ∷ Instant 15 150994944 ∷ Instant 18 16777216 ∷ Instant 18446744073709551615 0 ∷ Instant 22 0
    ∷ []) (0 ∷ 0 ∷ 0 ∷ 0 ∷ 7 ∷ 0 ∷ 0 ∷ 7 ∷ 0 ∷ 0 ∷ 8 ∷ 0 ∷ 16777216 ∷ 11 ∷ 0 ∷ 16777216 ∷ 15 ∷ 6 ∷ 0 ∷ 16777216 ∷ 18 ∷ 0 ∷ 16777216 ∷ 22 ∷
    15 ∷ 0 ∷ 0 ∷ 23 ∷ []) (interval 4 7 0 none 0 none 27 1 none ++ skipped 24 8 ++ interval 7 11 1 27 1 none 24 1 none ++ skipped 24 11 ++
    job 27 4 7 15 0 ++ skipped 24 15 ++ interval 11 18 0 24 1 27 27 1 none ++ skipped 24 18) ∷
    answered (task 7 65 1 1 1 1 ++ task 29 83 1 1 1 1 ++ task 27 65 1 1 1 1 ++ task 10 83 1 1 1 1 ++ spacing 29 3 ++ spacing 27 4 ++ spacing
    10 1) (Instant 0 128 ∷ Instant 1 134217728 ∷ Instant 2 1024 ∷ Instant 3 0 ∷ Instant 4 1152 ∷ Instant 5 1024 ∷ []) (0 ∷ 0 ∷ 0 ∷ 0 ∷ 1 ∷ 0
    ∷ 0 ∷ 2 ∷ 0 ∷ 0 ∷ 3 ∷ 0 ∷ 0 ∷ 4 ∷ 0 ∷ 0 ∷ 5 ∷ 0 ∷ 1024 ∷ 6 ∷ []) (interval 0 1 0 none 0 none 7 1 none ++ interval 1 2 1 7 1 none 27 1
    none ++ job 7 0 1 3 0 ++ interval 2 4 0 27 1 7 10 1 none ++ job 27 1 2 5 0 ++ skipped 10 5) ∷
    answered (task 21 23 1 2 2 1 ++ task 30 109 1 2 1 2 ++ task 6 221 1 1 2 1 ++ task 10 121 1 2 1 1 ++ spacing 10 4 ++ spacing 6 1 ++
    spacing 30 6) (Instant 0 0 ∷ Instant 1 0 ∷ Instant 2 0 ∷ Instant 3 2098176 ∷ Instant 4 1024 ∷ Instant 5 1075838976 ∷ Instant 7
    1073742848 ∷ Instant 8 1073741824 ∷ Mark 6 0 ∷ Instant 10 1075840064 ∷ []) (0 ∷ 0 ∷ 0 ∷ 0 ∷ 0 ∷ 0 ∷ 0 ∷ 0 ∷ 0 ∷ 0 ∷ 5 ∷ 0 ∷ 1024 ∷ 5 ∷ 0
    ∷ 0 ∷ 7 ∷ 0 ∷ 1073741824 ∷ 8 ∷ 0 ∷ 1073741824 ∷ 10 ∷ 0 ∷ 0 ∷ 1073742848 ∷ 12 ∷ []) (skipped 10 4 ++ interval 3 5 0 none 0 none 21 1 none
    ++ interval 5 7 1 21 1 none 30 1 none ++ skipped 30 7 ++ job 21 3 5 8 0 ++ skipped 30 8 ++ interval 7 10 0 30 1 21 21 1 none ++ skipped
    10 10 ++ skipped 30 10) ∷
    answered (task 22 173 0 1 1 2 ++ task 31 67 0 1 3 1 ++ task 11 67 0 3 1 2 ++ task 12 173 0 2 1 2) (Instant 0 0 ∷ Instant 1 0 ∷ Instant 3
    0 ∷ Mark 11 0 ∷ Instant 291 0 ∷ Instant 292 0 ∷ Instant 293 0 ∷ Instant 294 0 ∷ Instant 295 0 ∷ Instant 301 4194304 ∷ Instant 302 0 ∷
    []) (0 ∷ 0 ∷ 0 ∷ 0 ∷ 0 ∷ 0 ∷ 0 ∷ 0 ∷ 0 ∷ 0 ∷ 0 ∷ 0 ∷ 0 ∷ 0 ∷ 0 ∷ 0 ∷ 0 ∷ 0 ∷ 0 ∷ 0 ∷ 0 ∷ 302 ∷ 0 ∷ 0 ∷ 303 ∷ []) (interval 301 302 0
    none 0 none 22 1 none) ∷
    answered (task 20 33 1 1 1 1 ++ task 27 33 1 1 1 2 ++ task 25 28 1 1 1 2 ++ spacing 25 12) (Instant 0 33554432 ∷ Instant 1 1048576 ∷
    Instant 2 0 ∷ Instant 3 0 ∷ Instant 4 0 ∷ Mark 25 1 ∷ Instant 5 0 ∷ []) (0 ∷ 0 ∷ 0 ∷ 0 ∷ 1 ∷ 0 ∷ 0 ∷ 2 ∷ 0 ∷ 0 ∷ 3 ∷ 0 ∷ 0 ∷ 4 ∷ 0 ∷ 0 ∷
    5 ∷ 0 ∷ 0 ∷ 0 ∷ []) (interval 0 1 0 none 0 none 25 1 none ++ interval 1 2 1 25 1 none 20 1 none ++ job 25 0 1 4 0 ++ interval 2 4 0 20 1
    25 none 0 none ++ job 20 1 2 5 0 ++ interval 4 5 1 none 0 20 none 0 none) ∷
    answered (task 21 115 0 1 2 2) (Mark 21 0 ∷ Instant 999999982 2097152 ∷ Instant 18446744073709551615 2097152 ∷ Instant 999999983 0 ∷ [])
    (0 ∷ 0 ∷ 0 ∷ 0 ∷ 0 ∷ 999999983 ∷ 10 ∷ 0 ∷ 0 ∷ 999999985 ∷ []) (interval 999999982 999999983 0 none 0 none 21 1 none) ∷
    answered (task 13 247 0 1 1 1 ++ task 9 247 0 1 1 1 ++ task 4 247 0 1 1 1 ++ task 6 11 0 1 1 1 ++ spacing 6 6) (Instant 999999992 0 ∷
    []) (0 ∷ 0 ∷ 0 ∷ 0 ∷ []) ([]) ∷
    answered (task 6 47 1 3 1 2 ++ task 26 46 1 1 1 2 ++ task 11 46 1 2 3 2 ++ spacing 11 1000000000) (Instant 0 0 ∷ Instant 2 67108864 ∷
    Instant 3 0 ∷ Instant 4 0 ∷ Instant 6 0 ∷ Instant 13 0 ∷ Instant 15 0 ∷ Instant 17 0 ∷ Instant 19 64 ∷ Instant 22 2048 ∷ Instant 23
    67108928 ∷ Mark 6 0 ∷ []) (0 ∷ 0 ∷ 0 ∷ 0 ∷ 0 ∷ 0 ∷ 3 ∷ 0 ∷ 0 ∷ 4 ∷ 0 ∷ 0 ∷ 6 ∷ 0 ∷ 0 ∷ 0 ∷ 0 ∷ 0 ∷ 0 ∷ 0 ∷ 0 ∷ 0 ∷ 0 ∷ 22 ∷ 0 ∷ 0 ∷ 23 ∷
    0 ∷ 0 ∷ 24 ∷ 17 ∷ []) (interval 2 3 0 none 0 none 26 1 none ++ interval 3 4 1 26 1 none none 0 none ++ job 26 2 3 6 0 ++ interval 4 6 0
    none 0 26 none 0 none ++ interval 19 22 1 none 0 none 6 1 none) ∷
    answered (task 17 81 1 1 1 1 ++ task 8 81 1 1 1 1) (Instant 1 131072 ∷ Instant 2 0 ∷ Mark 8 1 ∷ Instant 3 131072 ∷ Instant 4 131328 ∷
    Instant 5 131328 ∷ Instant 6 131328 ∷ Instant 18446744073709551614 0 ∷ Instant 7 131328 ∷ Instant 8 0 ∷ Mark 8 0 ∷ Instant 9 131328 ∷
    []) (0 ∷ 0 ∷ 0 ∷ 0 ∷ 2 ∷ 0 ∷ 0 ∷ 3 ∷ 0 ∷ 0 ∷ 0 ∷ 4 ∷ 0 ∷ 0 ∷ 5 ∷ 0 ∷ 131072 ∷ 6 ∷ 0 ∷ 131328 ∷ 7 ∷ 15 ∷ 0 ∷ 256 ∷ 8 ∷ 0 ∷ 0 ∷ 9 ∷ 17 ∷ 0
    ∷ 131072 ∷ 10 ∷ []) (interval 1 2 0 none 0 none 17 1 none ++ interval 2 3 1 17 1 none none 0 none ++ job 17 1 2 4 0 ++ interval 3 5 0
    none 0 17 17 1 none ++ skipped 17 5 ++ interval 5 6 1 17 1 none 8 1 none ++ skipped 8 6 ++ skipped 17 6 ++ job 17 3 5 7 0 ++ skipped 8 7
    ++ interval 6 8 0 8 1 17 17 1 none ++ job 8 4 6 9 0 ++ skipped 17 9) ∷
    answered (task 17 10 0 4 3 3 ++ task 8 220 0 4 3 5 ++ task 12 161 0 2 3 3 ++ spacing 12 15 ++ spacing 8 2 ++ spacing 17 18) (Mark 83 2 ∷
    Instant 2 256 ∷ Instant 5 135424 ∷ Mark 17 0 ∷ Instant 6 135168 ∷ Instant 9 135424 ∷ Instant 10 0 ∷ Mark 8 1 ∷ Mark 8 0 ∷ []) (0 ∷ 0 ∷
    16 ∷ 0 ∷ 0 ∷ 6 ∷ 0 ∷ 0 ∷ 6 ∷ 17 ∷ 0 ∷ 135168 ∷ 9 ∷ 0 ∷ 135424 ∷ 10 ∷ 0 ∷ 0 ∷ 13 ∷ 17 ∷ 17 ∷ []) (interval 2 6 0 none 0 none 8 1 none ++
    skipped 12 6 ++ skipped 17 6 ++ skipped 8 9 ++ skipped 12 9 ++ skipped 17 9 ++ interval 6 10 1 8 1 none 17 1 none) ∷
    answered (task 28 128 0 1 2 1 ++ task 15 127 0 1 1 1 ++ task 29 128 0 1 1 2 ++ task 5 128 0 2 1 1) (Instant 0 0 ∷ Instant 1 0 ∷ Instant
    3 0 ∷ Instant 5 805306368 ∷ Instant 6 0 ∷ Instant 7 268435456 ∷ Instant 8 0 ∷ Instant 9 0 ∷ []) (0 ∷ 0 ∷ 0 ∷ 0 ∷ 0 ∷ 0 ∷ 0 ∷ 0 ∷ 0 ∷ 0 ∷
    6 ∷ 0 ∷ 0 ∷ 7 ∷ 0 ∷ 0 ∷ 8 ∷ 0 ∷ 0 ∷ 9 ∷ 0 ∷ 0 ∷ 10 ∷ []) (interval 5 6 0 none 0 none 28 1 none ++ interval 6 8 1 28 1 none 29 1 none ++
    job 28 5 6 9 0) ∷
    answered (task 9 56 1 1 1 1 ++ task 11 90 1 1 1 1 ++ task 10 153 0 1 1 1 ++ task 4 90 0 1 1 1 ++ spacing 9 1 ++ spacing 11 3) (Instant 1
    2048 ∷ Instant 2 512 ∷ Instant 3 3072 ∷ Instant 4 512 ∷ Instant 5 3072 ∷ Mark 4 0 ∷ []) (0 ∷ 0 ∷ 0 ∷ 0 ∷ 2 ∷ 0 ∷ 0 ∷ 3 ∷ 0 ∷ 2048 ∷ 4 ∷
    0 ∷ 0 ∷ 5 ∷ 0 ∷ 0 ∷ 6 ∷ 0 ∷ []) (interval 1 2 0 none 0 none 11 1 none ++ interval 2 3 1 11 1 none 9 1 none ++ skipped 11 3 ++ job 11 1 2
    4 0 ++ interval 3 5 0 9 1 11 10 1 none) ∷
    answered (task 25 186 0 3 3 3 ++ task 20 110 1 2 3 3 ++ task 6 127 1 4 4 5) (Instant 0 0 ∷ []) (0 ∷ 0 ∷ 0 ∷ 0 ∷ []) ([]) ∷
    answered (task 16 213 0 4 2 1) (Instant 1 65536 ∷ Instant 4 65536 ∷ Instant 6 0 ∷ Instant 5 0 ∷ Instant 7 0 ∷ Instant 8 65536 ∷ Instant
    12 0 ∷ Instant 14 65536 ∷ Instant 15 0 ∷ Instant 16 0 ∷ Instant 19 0 ∷ []) (0 ∷ 0 ∷ 0 ∷ 0 ∷ 5 ∷ 0 ∷ 0 ∷ 5 ∷ 15 ∷ 0 ∷ 0 ∷ 7 ∷ 0 ∷ 0 ∷ 8 ∷
    0 ∷ 0 ∷ 12 ∷ 0 ∷ 0 ∷ 14 ∷ 0 ∷ 65536 ∷ 15 ∷ 0 ∷ 0 ∷ 19 ∷ 0 ∷ 0 ∷ 19 ∷ 0 ∷ 0 ∷ 21 ∷ []) (interval 1 5 0 none 0 none 16 1 none ++ interval
    5 7 1 16 1 none none 0 none ++ job 16 1 5 8 0 ++ interval 7 12 0 none 0 16 16 1 none ++ interval 12 14 1 16 1 none none 0 none ++
    skipped 16 14 ++ job 16 4 12 15 0 ++ interval 14 19 0 none 0 16 16 1 none) ∷
    answered (task 16 169 1 1 1 1 ++ task 7 169 1 1 1 1 ++ spacing 16 2) (Instant 0 0 ∷ Instant 2 0 ∷ Instant 4 128 ∷ []) (0 ∷ 0 ∷ 0 ∷ 0 ∷ 0
    ∷ 0 ∷ 0 ∷ 0 ∷ 5 ∷ []) ([]) ∷
    answered (task 3 168 1 1 1 1 ++ task 7 168 1 1 1 1 ++ task 13 237 1 1 1 1) (Mark 3 0 ∷ Instant 1000000001 8 ∷ Instant 999999990 8 ∷ Mark
    7 0 ∷ Instant 999999991 0 ∷ Mark 7 0 ∷ Instant 1000000000 1073750144 ∷ []) (0 ∷ 0 ∷ 0 ∷ 10 ∷ 0 ∷ 0 ∷ 999999991 ∷ 0 ∷ 0 ∷ 0 ∷ 999999992 ∷
    0 ∷ 16 ∷ []) (interval 999999990 999999991 0 none 0 none 3 1 none) ∷
    answered (task 28 183 1 3 3 3 ++ task 25 183 0 2 1 3 ++ task 23 183 0 3 1 1 ++ task 20 181 0 2 3 1) (Instant 0 0 ∷ Instant 1 8388608 ∷
    Instant 4 1048576 ∷ Instant 5 0 ∷ Instant 6 34603008 ∷ Mark 28 0 ∷ Instant 7 9437184 ∷ Instant 9 9437184 ∷ Instant 10 9437184 ∷ Instant
    11 268435456 ∷ []) (0 ∷ 0 ∷ 0 ∷ 0 ∷ 0 ∷ 0 ∷ 4 ∷ 0 ∷ 0 ∷ 5 ∷ 0 ∷ 0 ∷ 6 ∷ 0 ∷ 0 ∷ 7 ∷ 0 ∷ 0 ∷ 1048576 ∷ 9 ∷ 0 ∷ 1048576 ∷ 10 ∷ 0 ∷ 8388608
    ∷ 12 ∷ 0 ∷ 0 ∷ 12 ∷ []) (interval 1 4 0 none 0 none 23 1 none ++ interval 4 6 1 23 1 none 20 1 none ++ job 23 1 4 7 0 ++ skipped 20 7 ++
    interval 6 9 0 20 1 23 25 1 none ++ skipped 20 9 ++ job 20 4 6 10 1 ++ skipped 23 10) ∷
    answered (task 25 175 0 5 3 5 ++ task 30 178 0 5 4 5 ++ task 17 178 0 4 1 3 ++ spacing 17 29) (Instant 6 1073741824 ∷ Instant 10 0 ∷
    Instant 11 131072 ∷ Instant 15 33554432 ∷ Instant 16 33554432 ∷ Instant 1000000001 33685504 ∷ Instant 20 0 ∷ Instant 24 131072 ∷ Instant
    25 0 ∷ Instant 28 0 ∷ Instant 32 0 ∷ Instant 33 0 ∷ []) (0 ∷ 0 ∷ 0 ∷ 0 ∷ 11 ∷ 0 ∷ 0 ∷ 11 ∷ 0 ∷ 0 ∷ 15 ∷ 0 ∷ 0 ∷ 16 ∷ 0 ∷ 0 ∷ 20 ∷ 10 ∷ 0
    ∷ 0 ∷ 25 ∷ 0 ∷ 131072 ∷ 25 ∷ 0 ∷ 0 ∷ 28 ∷ 0 ∷ 0 ∷ 33 ∷ 0 ∷ 0 ∷ 33 ∷ 0 ∷ 0 ∷ 38 ∷ []) (interval 6 11 0 none 0 none 30 1 none ++ interval
    11 15 1 30 1 none 17 1 none ++ job 30 6 11 20 0 ++ skipped 17 24 ++ interval 15 25 0 17 1 30 25 1 none ++ job 17 11 15 28 0 ++ interval
    25 28 1 25 1 17 none 0 none ++ job 25 15 25 33 1) ∷
    []
