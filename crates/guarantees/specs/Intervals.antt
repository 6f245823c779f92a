-- What a history has of an interval, for its entry (kind 17) and for what the next interval executes. What stands between quotation
-- marks is document 01.
use Rattle.guarantees.specs.Types.{Bool, true, false, cond, not, List, [], ℕ, Option, None, Some, IntervalEntry}
use Rattle.std.specs.Prelude.{eqb, get_or, ◌≡◌, ◌⊎◌, ◌&&◌, ◌||◌, ◌∷◌, ◌++◌, ◌-◌, ◌<◌}
use Rattle.sets.specs.Sets.{member, insert}
use Rattle.rules.specs.Order.{highest}
use Rattle.guarantees.specs.History.{Event, Finishes, Ends, GivesWay, Begins}
use Rattle.guarantees.specs.Queries.{details, comes, finishes, ends, takes, begins, gives_way, after, Origin, no_origin, origin_by}

-- the last interval to begin, as far as it has gone; `own` are the tasks of the marked jobs that were taken in it, `next` of those
-- taken since its end; `origins` has of each task when its releases were handed in; `decided` is what the next interval executes
pub record Course : Type 0 where
  pub is_open : Bool
  pub begin : ℕ
  pub half : ℕ
  pub task : Option ℕ
  pub work : ℕ
  pub copiedout : Option ℕ
  pub chosen : Option ℕ
  pub fate : ℕ
  pub own : ℕ
  pub next : ℕ
  pub origins : ℕ → Origin
  pub decided : Option ℕ

-- "the first interval gives the processor half 0"
abbrev pub no_course : Course
no_course =
    record {
      is_open = false;
      begin = 0;
      half = 2;
      task = None;
      work = 0;
      copiedout = None;
      chosen = None;
      fate = 0;
      own = 0;
      next = 0;
      origins = λ n. no_origin;
      decided = None;
    }

abbrev pub with_task : Option ℕ → ℕ → ℕ
with_task None s = s
with_task (Some n) s = insert n s

-- "work (0 idle, 1 execute, 2 copy in and execute)": a job that the engine has copied in, and that has not given way, executes at once
abbrev pub work_by : ℕ → Option ℕ → ℕ
work_by fate None = 0
work_by fate (Some n) = cond (eqb fate 1) 1 2

-- "its fate (0 none, 1 done, 2 cancelled)", and 2/13: 3 where it had finished
abbrev pub fate_by : ℕ → Event → ℕ
fate_by fate e = cond (finishes e) 1 (cond (gives_way e) (cond (eqb fate 1) 3 2) fate)

module _ (priority : List ℕ) where
  -- "the highest-priority marked job released in it and ready"; 6/13: "promotion follows the same order", by priority, then the original
  -- time, then the task number. All of them are ready then, since only one whose copy-in is done would not be
  abbrev pub highest_own : Course → Option ℕ
  highest_own x = highest priority (λ n. (x.origins n).since) x.own

  -- "When an interval ends and its copy-in was cancelled or none was chosen, the highest-priority marked job .. is promoted (R4)"
  abbrev pub promoted_by : Course → Option ℕ
  promoted_by x = cond (eqb x.fate 1) None (highest_own x)

  -- "The processor copies in and then executes the promoted job; else it executes the loaded one; else it idles (R5)."
  abbrev pub executes_next : Course → Option ℕ
  executes_next x = cond (eqb x.fate 1) x.chosen (highest_own x)

  -- "The halves swap (R1)"; the releases of an instant "belong to the open interval, else to the one that step g begins"
  abbrev pub course_by : Course → Event → Course
  course_by x e = record {
    is_open = cond (begins e) true (cond (ends e) false x.is_open);
    begin = cond (begins e) (details e).tick x.begin;
    half = cond (begins e) (1 - x.half) x.half;
    task = cond (begins e) (details e).task x.task;
    work = cond (begins e) (work_by x.fate (details e).task) x.work;
    copiedout = cond (begins e) (details e).out x.copiedout;
    chosen = cond (begins e) None (cond (finishes e || gives_way e) (details e).task x.chosen);
    fate = cond (begins e) 0 (fate_by x.fate e);
    own = cond (begins e) x.next (cond (takes e && ((details e).mark && x.is_open)) (with_task (details e).task x.own) x.own);
    next = cond (begins e) 0 (cond (takes e && ((details e).mark && not x.is_open)) (with_task (details e).task x.next) x.next);
    origins = λ n. origin_by n (x.origins n) e;
    decided = cond (ends e) (executes_next x) x.decided;
  }

  abbrev pub course : List Event → Course
  course = after course_by no_course

  pub record Proceeds (h : List Event) : Type 0 where
    -- "If no interval is open .. an interval begins"
    pub each_begin : (before after : List Event) (t : ℕ) (r l : Option ℕ) → h ≡ before ++ (Begins t r l ∷ after)
        → ((course before).is_open ≡ false) × (r ≡ (course before).decided)
    -- "If an interval is open .. it ends"
    pub each_end : (before after : List Event) (t : ℕ) → h ≡ before ++ (Ends t ∷ after) → (course before).is_open ≡ true
    -- the choice "is made once an interval": the engine finishes one copy-in in the open interval,
    pub each_finish : (before after : List Event) (n : ℕ) → h ≡ before ++ (Finishes n ∷ after)
        → ((course before).is_open ≡ true) × ((course before).fate ≡ 0)
    -- and that one gives way, or the one under way
    pub each_giving : (before after : List Event) (n : ℕ) → h ≡ before ++ (GivesWay n ∷ after)
        → ((course before).is_open ≡ true) × (((course before).fate ≡ 0) ⊎ (((course before).fate ≡ 1) × ((course before).chosen ≡ Some n)))

  -- the entry of an interval that ends at t
  abbrev pub entry_by : Course → ℕ → IntervalEntry
  entry_by x t = record {
    begin = x.begin;
    end = t;
    half = x.half;
    task = x.task;
    work = x.work;
    copiedout = x.copiedout;
    chosen = x.chosen;
    fate = x.fate;
    promoted = promoted_by x;
  }

  -- the entries of the intervals that end, from one that has gone so far on
  unfoldable pub ended : Course → List Event → List IntervalEntry
  ended x [] = []
  ended x (e ∷ es) = cond (ends e) (entry_by x (details e).tick ∷ []) [] ++ ended (course_by x e) es

-- ---- Why a copy-in gives way

-- the marked jobs that were taken at the instant that came last
abbrev pub came_by : ℕ → Event → ℕ
came_by s e = cond (comes e) 0 (cond (takes e && (details e).mark) (with_task (details e).task s) s)

abbrev pub came : List Event → ℕ
came = after came_by 0

-- 6/13: "Only a strictly lower priority is cancelled, thrown out": there is one of strictly higher priority than task n's among them
abbrev pub Cause : List ℕ → ℕ → ℕ → Type 0
Cause priority s n = (k : ℕ) × (k < 32) × (member k s ≡ true) × (get_or priority k 0 < get_or priority n 0)
