-- What the engine copies in, by a history: whom it chooses where it becomes free, and how long the copy-in lasts. What stands between
-- quotation marks is document 01.
use Rattle.guarantees.specs.Types.{Bool, true, false, cond, not, List, [], ℕ, Option, None, Some, CopyIn, Unchosen, NoneChosen, Copying, Loaded}
use Rattle.std.specs.Prelude.{get_or, ◌≡◌, ◌&&◌, ◌||◌, ◌∷◌, ◌++◌, ◌+◌, ◌≤◌, ◌<◌}
use Rattle.sets.specs.Sets.{member, remove}
use Rattle.table.specs.Table.{copyin_length}
use Rattle.rules.specs.Order.{highest}
use Rattle.rules.specs.Instant.{settled, copyin_task}
use Rattle.guarantees.specs.History.{Event, Comes, Finishes, Ends, GivesWay}
use Rattle.guarantees.specs.Queries.{details, comes, finishes, completes, ends, takes, begins, stops, gives_way, defers, after, at_rest, Origin, no_origin, origin_by}
use Rattle.guarantees.specs.Pending.{now}
use Rattle.guarantees.specs.Intervals.{with_task}

-- the jobs that were taken and that no interval has executed; whether the engine has become free at the instant that came last; what it
-- copies in, in the open interval; the marked jobs taken since that choice; and whether the processor has a job that it has not executed
pub record Choice : Type 0 where
  pub ready : ℕ
  pub origins : ℕ → Origin
  pub choosing : Bool
  pub engine : CopyIn
  pub rivals : ℕ
  pub works : Bool

abbrev pub no_choice : Choice
no_choice = record { ready = 0; origins = λ n. no_origin; choosing = false; engine = Unchosen; rivals = 0; works = false }

abbrev pub without_task : Option ℕ → ℕ → ℕ
without_task None s = s
without_task (Some n) s = remove n s

abbrev pub ready_by : ℕ → Event → ℕ
ready_by s e = cond (takes e) (with_task (details e).task s) (cond (begins e) (without_task (details e).task s) s)

abbrev pub has_task : Option ℕ → Bool
has_task None = false
has_task (Some n) = true

abbrev pub engine_of : (ℕ → CopyIn) → Option ℕ → CopyIn
engine_of copies None = NoneChosen
engine_of copies (Some n) = copies n

-- where these events follow, step b is over, or the instant, if the engine is still to choose
abbrev pub past_b : Bool → List Event → Bool
past_b choosing [] = true
past_b choosing (e ∷ es) = comes e || (not choosing && (takes e || defers e))

module _ (priority columns : List ℕ) where
  -- "the highest-priority ready job begins copy-in, or none does (R2)": of those taken by the end of that instant's releases
  abbrev pub highest_ready : Choice → Event → Option ℕ
  highest_ready x e = highest priority (λ n. (origin_by n (x.origins n) e).since) (ready_by x.ready e)

  -- "a phase lasts exactly its table length"
  abbrev pub chosen_by : Choice → Event → CopyIn
  chosen_by x e = engine_of (λ n. Copying n ((details e).tick + copyin_length columns n)) (highest_ready x e)

  -- "The engine copies out the job executed in the interval before; without one the choice is made now."
  abbrev pub choice_by : Choice → Event → Choice
  choice_by x e = record {
    ready = ready_by x.ready e;
    origins = λ n. origin_by n (x.origins n) e;
    choosing = cond (comes e || begins e) false (completes e || x.choosing);
    engine = cond (ends e || has_task (details e).out) Unchosen
        (cond (begins e || (completes e || (takes e && x.choosing))) (chosen_by x e)
        (cond (finishes e) (engine_of Loaded (details e).task) (cond (gives_way e) NoneChosen x.engine)));
    rivals = cond (begins e || completes e) 0
        (cond (takes e && (not x.choosing && (details e).mark)) (with_task (details e).task x.rivals) x.rivals);
    works = cond (begins e) (has_task (details e).task) (cond (stops e) false x.works);
  }

  abbrev pub choice : List Event → Choice
  choice = after choice_by no_choice

  pub record Copies (h : List Event) : Type 0 where
    -- it copies that job in until its end,
    pub each_finish : (before after : List Event) (n : ℕ) → h ≡ before ++ (Finishes n ∷ after)
        → (u : ℕ) × ((choice before).engine ≡ Copying n u) × (now before ≡ Some u)
    -- behind which no instant comes, and none is over with it under way
    pub each_instant : (before after : List Event) (n t u : ℕ) → h ≡ before ++ (Comes t ∷ after)
        → (choice before).engine ≡ Copying n u → t ≤ u
    pub each_copying : (before after : List Event) (n t u : ℕ) → h ≡ before ++ after → at_rest after ≡ true
        → (choice before).engine ≡ Copying n u → now before ≡ Some t → t < u
    -- no other gives way, and one under way does so before its end
    pub each_giving : (before after : List Event) (n : ℕ) → h ≡ before ++ (GivesWay n ∷ after)
        → (copyin_task (choice before).engine ≡ Some n) × ((u : ℕ) → (choice before).engine ≡ Copying n u → now before ≡ Some u → ⊥)
    -- "If a marked release was taken whose priority is higher than that of a copy-in under way on the engine, this copy-in is cancelled";
    -- 2/13: it "also throws out a lower-priority copy-in that the engine has already finished in the open interval": where an instant is
    -- over, none that has not given way has such a rival
    pub each_rival : (before after : List Event) (n k : ℕ) → h ≡ before ++ after → at_rest after ≡ true → k < 32
        → copyin_task (choice before).engine ≡ Some n → member k (choice before).rivals ≡ true → get_or priority n 0 ≤ get_or priority k 0
    -- an interval ends where "its copy-in choice has been made and no copy is under way",
    pub each_end : (before after : List Event) (t : ℕ) → h ≡ before ++ (Ends t ∷ after) → settled (choice before).engine ≡ true
    -- and it ends there: behind step b none is open of which this is so and whose processor does not work
    pub each_open : (before after : List Event) → h ≡ before ++ after → past_b (choice before).choosing after ≡ true
        → settled (choice before).engine ≡ true → (choice before).works ≡ true
