-- The waveforms of plans A, B and G (5/13), line by line as the request has them, and not by the definitions of the code.
use Rattle.std.specs.Prelude.{List, [], ◌∷◌, ◌++◌, ℕ}
use Prim.Native.String.{String}
use Rattle.waves.specs.Dump.{ascii}
use Rattle.plans.specs.Rows.{Row, drawn, not_drawn}
use Rattle.plans.specs.Plans.{tasks, release}

-- the bytes of lines, each with its newline
unfoldable pub lines : List String → List ℕ
lines [] = []
lines (s ∷ ss) = ascii s ++ (10 ∷ lines ss)

-- 191 bytes, the same for every run
unfoldable pub header : List ℕ
header =
    lines (
    "$timescale 1 us $end" ∷
    "$scope module gateway $end" ∷
    "$var wire 8 a processor $end" ∷
    "$var wire 8 b copy_in $end" ∷
    "$var wire 8 c copy_out $end" ∷
    "$var wire 1 d half $end" ∷
    "$upscope $end" ∷
    "$enddefinitions $end" ∷
    [])

-- plans A and B: 445 bytes with the header; a line here is what stands under one time mark. They differ in the tick from which on
-- task 2 is no longer copied in
unfoldable pub dump_until : String → List ℕ
dump_until tick =
    header ++ lines (
    "#0" ∷ "b11111111 a" ∷ "b00000011 b" ∷ "b11111111 c" ∷ "0d" ∷
    "#2" ∷ "b00000011 a" ∷ "b00000010 b" ∷ "1d" ∷
    tick ∷ "b11111111 b" ∷
    "#7" ∷ "b00000001 a" ∷ "b00000011 c" ∷ "0d" ∷
    "#9" ∷ "b00000010 b" ∷ "b11111111 c" ∷
    "#11" ∷ "b11111111 b" ∷
    "#12" ∷ "b00000010 a" ∷ "b00000001 c" ∷ "1d" ∷
    "#13" ∷ "b11111111 c" ∷
    "#16" ∷ "b11111111 a" ∷ "b00000010 c" ∷ "0d" ∷
    "#17" ∷ "b11111111 c" ∷
    [])

-- plan A: it is cancelled at 3
unfoldable pub dump_A : List ℕ
dump_A = dump_until "#3"

-- plan B: it is done at 4, and thrown out
unfoldable pub dump_B : List ℕ
dump_B = dump_until "#4"

-- plan G: 233 bytes with the header: nothing is released
unfoldable pub dump_G : List ℕ
dump_G =
    header ++ lines (
    "#0" ∷ "b11111111 a" ∷ "b11111111 b" ∷ "b11111111 c" ∷ "0d" ∷
    [])

unfoldable pub waveforms : List Row
waveforms =
    drawn (tasks ++ (release 0 3 ++ (release 2 2 ++ (release 3 1)))) dump_A 445 447 ∷
    drawn (tasks ++ (release 0 3 ++ (release 2 2 ++ (release 4 1)))) dump_B 445 447 ∷
    drawn (tasks) dump_G 233 235 ∷
    -- 13: 444 bytes for plan A
    not_drawn (tasks ++ (release 0 3 ++ (release 2 2 ++ (release 3 1)))) 444 13 445 ∷
    -- 8: the first entry is a release
    not_drawn (release 0 1) 3 8 0 ∷ []
