-- The limits of inputs, runs and records: those that document 01 gives, and those that follow from them and from the entries' lengths. Each
-- stands here once, and in src/limits for the code.
use Rattle.std.specs.Prelude.{ℕ, ◌+◌, ◌*◌}
use Rattle.entries.specs.Entries.{size}

-- ---- As document 01 gives them

-- there are so many task numbers, from 0 on: a set of tasks is a number of as many bits, and an array by task has as many places
abbrev pub tasks : ℕ
tasks = 32

-- the longest that a phase may take, in ticks
abbrev pub longest_phase : ℕ
longest_phase = 1000000

-- the most releases of a file
abbrev pub releases : ℕ
releases = 4096

-- the last tick at which a task may be released
abbrev pub last_release : ℕ
last_release = 1000000000

-- the longest spacing of a task's releases (8/13)
abbrev pub longest_spacing : ℕ
longest_spacing = 1000000000

-- ---- The bytes of an input

-- of a head that is accepted: an entry for each task, and a spacing for each
abbrev pub longest_head : ℕ
longest_head = tasks * size 1 + tasks * size 3

-- of a list of releases that is accepted
abbrev pub longest_list : ℕ
longest_list = releases * size 2

-- of an input that is accepted
abbrev pub longest_file : ℕ
longest_file = longest_head + longest_list

-- of a head or an input that is enough to read: one whole entry more, of which a task's is the longest
abbrev pub head_most : ℕ
head_most = longest_head + size 1

abbrev pub file_most : ℕ
file_most = longest_file + size 1

-- ---- A run and its record

-- no run of n releases needs as many instants as this: so many for each of them, and as many more
abbrev pub instants_each : ℕ
instants_each = 32

abbrev pub budget : ℕ → ℕ
budget n = instants_each * n + instants_each

-- and no run of a file
abbrev pub budget_most : ℕ
budget_most = budget releases

-- no instant of a file's run is later: far before the last tick of a clock
abbrev pub last_instant : ℕ
last_instant = 3 * last_release

-- the most bytes that one instant leaves in a record: a job done, an interval ended, a release of each task skipped
abbrev pub instant_most : ℕ
instant_most = size 16 + size 17 + tasks * size 18

-- the most bytes of a record for each release: a job done and three intervals
abbrev pub record_each : ℕ
record_each = size 16 + 3 * size 17

-- of the record of a file
abbrev pub record_most : ℕ
record_most = record_each * releases
