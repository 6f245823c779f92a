-- A viewer: it reads a value change dump as IEEE 1364 has it, as far as dumps of wires go, and shows each variable's value at every tick.
-- It does not know how a dump is made.
use Rattle.std.specs.Prelude.{eqb, ltb, leb, not, ◌||◌, ◌-◌, ◌&&◌, ◌∷◌, ◌+◌, ◌*◌}
use Rattle.waves.specs.Types.{Bool, true, false, cond, List, [], ℕ}
use Rattle.waves.specs.Dump.{ascii}

-- ---- Words, parted by blanks: space, tab, newline

abbrev pub blank : ℕ → Bool
blank c = eqb c 32 || (eqb c 9 || eqb c 10)

-- the word that bytes begin with, and the words behind it
pub record Parted : Type 0 where
  pub front : List ℕ
  pub behind : List (List ℕ)

unfoldable pub gathered : Parted → List (List ℕ)
gathered p = elim p.front [ [] ↦ p.behind | c ∷ w ↦ (c ∷ w) ∷ p.behind ]

unfoldable pub parted : List ℕ → Parted
parted [] = record { front = []; behind = [] }
parted (c ∷ s) =
    let p : Parted = parted s in
    cond (blank c) (record { front = []; behind = gathered p }) (record { front = c ∷ p.front; behind = p.behind })

unfoldable pub words : List ℕ → List (List ℕ)
words s = gathered (parted s)

unfoldable pub alike : List ℕ → List ℕ → Bool
alike [] [] = true
alike [] (d ∷ v) = false
alike (c ∷ w) [] = false
alike (c ∷ w) (d ∷ v) = eqb c d && alike w v

-- ---- Numbers in a base, byte 48 is `0`; a word that is none, or has another byte, is no number

pub data Number : Type 0 where
  NoNumber : Number
  Is : ℕ → Number

unfoldable pub number_from : ℕ → ℕ → List ℕ → Number
number_from base n [] = Is n
number_from base n (c ∷ w) =
    cond (leb 48 c && ltb c (48 + base)) (number_from base (base * n + (c - 48)) w) NoNumber

abbrev pub number : ℕ → List ℕ → Number
number base [] = NoNumber
number base (c ∷ w) = number_from base 0 (c ∷ w)

-- ---- The declarations, each a word that begins with `$`, up to the word `$end`: those of variables have type, width, code and name

pub record Variable : Type 0 where
  pub width : Number
  pub code : List ℕ
  pub name : List ℕ

-- a variable's declaration, word by word
pub data Section : Type 0 where
  Outside : Section
  Other : List ℕ → Section
  Kind : Section
  Width : Section
  Code : Number → Section
  Name : Number → List ℕ → Section
  Named : Variable → Section

-- the variables, and the words behind the declarations
pub data Declared : Type 0 where
  Undeclared : Declared
  Declares : List Variable → List (List ℕ) → Declared

abbrev pub with_variable : Variable → Declared → Declared
with_variable v Undeclared = Undeclared
with_variable v (Declares vs ws) = Declares (v ∷ vs) ws

abbrev pub opens : List ℕ → Section
opens w = cond (alike w (ascii "$var")) Kind (Other w)

unfoldable pub declared : Section → List (List ℕ) → Declared
declared at [] = Undeclared
declared Outside (w ∷ ws) = elim w [ [] ↦ Undeclared | c ∷ r ↦ cond (eqb c 36) (declared (opens (c ∷ r)) ws) Undeclared ]
declared (Other k) (w ∷ ws) =
    cond (alike w (ascii "$end")) (cond (alike k (ascii "$enddefinitions")) (Declares [] ws) (declared Outside ws)) (declared (Other k) ws)
declared Kind (w ∷ ws) = declared Width ws
declared Width (w ∷ ws) = declared (Code (number 10 w)) ws
declared (Code n) (w ∷ ws) = declared (Name n w) ws
declared (Name n c) (w ∷ ws) = declared (Named (record { width = n; code = c; name = w })) ws
declared (Named v) (w ∷ ws) = cond (alike w (ascii "$end")) (with_variable v (declared Outside ws)) (declared (Named v) ws)

-- ---- Time marks and values: `#` and a number; a digit and a code; `b` and digits, then a code

pub data Event : Type 0 where
  At : ℕ → Event
  Put : List ℕ → ℕ → Event

pub data Events : Type 0 where
  Unread : Events
  Reads : List Event → Events

abbrev pub with_event : Event → Events → Events
with_event e Unread = Unread
with_event e (Reads es) = Reads (e ∷ es)

-- a value whose code comes next
pub data Pending : Type 0 where
  Nothing : Pending
  Value : ℕ → Pending

abbrev pub timed : Number → Events → Events
timed NoNumber r = Unread
timed (Is n) r = with_event (At n) r

unfoldable pub events : Pending → List (List ℕ) → Events
events Nothing [] = Reads []
events (Value n) [] = Unread
events (Value n) (w ∷ ws) = with_event (Put w n) (events Nothing ws)
events Nothing (w ∷ ws) =
    elim w [
      | [] ↦ Unread
      | c ∷ r ↦
          cond (eqb c 35) (timed (number 10 r) (events Nothing ws))
          (cond (eqb c 98) (elim (number 2 r) [ NoNumber ↦ Unread | Is n ↦ events (Value n) ws ])
          (cond (eqb c 48) (with_event (Put r 0) (events Nothing ws))
          (cond (eqb c 49) (with_event (Put r 1) (events Nothing ws)) Unread)))
    ]

-- ---- A dump, read

pub data Read : Type 0 where
  NoDump : Read
  Dump : List Variable → List Event → Read

abbrev pub with_variables : List Variable → Events → Read
with_variables vs Unread = NoDump
with_variables vs (Reads es) = Dump vs es

abbrev pub behind : Declared → Read
behind Undeclared = NoDump
behind (Declares vs ws) = with_variables vs (events Nothing ws)

unfoldable pub read : List ℕ → Read
read s = behind (declared Outside (words s))

-- ---- What is shown at a tick: a value holds until the next

-- the last value of a code under a mark at or before the tick
unfoldable pub value_at : List ℕ → ℕ → Number → List Event → Number
value_at code t n [] = n
value_at code t n (At m ∷ es) = cond (leb m t) (value_at code t n es) n
value_at code t n (Put c v ∷ es) = value_at code t (cond (alike c code) (Is v) n) es

-- the value of a variable by its name
unfoldable pub named : List ℕ → ℕ → List Event → List Variable → Number
named name t es [] = NoNumber
named name t es (v ∷ vs) = cond (alike v.name name) (value_at v.code t NoNumber es) (named name t es vs)

abbrev pub shows : Read → List ℕ → ℕ → Number
shows NoDump name t = NoNumber
shows (Dump vs es) name t = named name t es vs

-- ---- A dump without idle words: marks rise strictly, each has a value, and each value is another than the code had before

abbrev pub after : Number → ℕ → Bool
after NoNumber m = true
after (Is n) m = ltb n m

unfoldable pub rise : Number → List Event → Bool
rise last [] = true
rise last (At m ∷ es) = after last m && rise (Is m) es
rise last (Put c v ∷ es) = rise last es

-- by whether a mark waits for its value
unfoldable pub valued : Bool → List Event → Bool
valued waits [] = not waits
valued waits (At m ∷ es) = not waits && valued true es
valued waits (Put c v ∷ es) = valued false es

-- the last value of a code, of events in falling order
unfoldable pub last_of : List ℕ → List Event → Number
last_of code [] = NoNumber
last_of code (At m ∷ es) = last_of code es
last_of code (Put c v ∷ es) = cond (alike c code) (Is v) (last_of code es)

abbrev pub other : Number → ℕ → Bool
other NoNumber v = true
other (Is n) v = not (eqb n v)

unfoldable pub fresh : List Event → List Event → Bool
fresh before [] = true
fresh before (At m ∷ es) = fresh before es
fresh before (Put c v ∷ es) = other (last_of c before) v && fresh (Put c v ∷ before) es
