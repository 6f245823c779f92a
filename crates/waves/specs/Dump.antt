-- A value change dump of IEEE 1364, as bytes, of samples: the four values of 5/13 from a time on. It knows nothing of runs.
use Rattle.std.specs.Prelude.{◌/◌, ◌%◌, eqb, ◌&&◌, ◌∷◌, ◌++◌, ◌+◌}
use Prim.Native.Char.{code}
use Prim.Native.String.{String}
use Prim.Native.String.{[] as nil, ◌∷◌ as cons}
use Rattle.lines.specs.Lines.{decimal, newline}
use Rattle.waves.specs.Types.{Bool, cond, List, [], ℕ, Shown}

-- what shows from a time on
pub record Sample : Type 0 where
  pub time : ℕ
  pub shown : Shown

-- ---- The header: "the timescale, one module scope, the variables, the scope's close and the end of definitions, with no date or version"

unfoldable pub ascii : String → List ℕ
ascii nil = []
ascii (cons c s) = code c ∷ ascii s

unfoldable pub line : String → List ℕ
line s = ascii s ++ newline

unfoldable pub header : List ℕ
header =
    line "$timescale 1 us $end"
    ++ (line "$scope module gateway $end"
    ++ (line "$var wire 8 a processor $end"
    ++ (line "$var wire 8 b copy_in $end"
    ++ (line "$var wire 8 c copy_out $end"
    ++ (line "$var wire 1 d half $end"
    ++ (line "$upscope $end"
    ++ line "$enddefinitions $end"))))))

-- ---- Values

abbrev pub digit : ℕ → ℕ
digit n = 48 + n % 2

-- "with a small b and all eight digits", then the identifier code
unfoldable pub wires : ℕ → ℕ → List ℕ
wires code n =
    98 ∷ digit (n / 128) ∷ digit (n / 64) ∷ digit (n / 32) ∷ digit (n / 16) ∷ digit (n / 8) ∷ digit (n / 4) ∷ digit (n / 2) ∷ digit n
    ∷ 32 ∷ code ∷ newline

-- of the single wire
unfoldable pub wire : ℕ → ℕ → List ℕ
wire code n = (48 + n) ∷ code ∷ newline

-- all four, "in the order a to d"
unfoldable pub all : Shown → List ℕ
all w = wires 97 w.processor ++ (wires 98 w.copyin ++ (wires 99 w.copyout ++ wire 100 w.half))

-- "a value stands only where it changes"
abbrev pub if_new : ℕ → ℕ → List ℕ → List ℕ
if_new old new l = cond (eqb old new) [] l

unfoldable pub changed : Shown → Shown → List ℕ
changed v w =
    if_new v.processor w.processor (wires 97 w.processor)
    ++ (if_new v.copyin w.copyin (wires 98 w.copyin)
    ++ (if_new v.copyout w.copyout (wires 99 w.copyout)
    ++ if_new v.half w.half (wire 100 w.half)))

-- ---- Time marks

unfoldable pub mark : ℕ → List ℕ
mark t = 35 ∷ (decimal t ++ newline)

abbrev pub same : Shown → Shown → Bool
same v w = eqb v.processor w.processor && (eqb v.copyin w.copyin && (eqb v.copyout w.copyout && eqb v.half w.half))

-- "time marks rise strictly, none without a value": a sample that shows what the one before it does leaves nothing
unfoldable pub change : Shown → Sample → List ℕ
change v s = cond (same v s.shown) [] (mark s.time ++ changed v s.shown)

unfoldable pub changes : Shown → List Sample → List ℕ
changes v [] = []
changes v (s ∷ ss) = change v s ++ changes s.shown ss

-- ---- The dump: "All four stand at time 0", where the first sample is

unfoldable pub dump : List Sample → List ℕ
dump [] = header
dump (s ∷ ss) = header ++ ((mark s.time ++ all s.shown) ++ changes s.shown ss)
