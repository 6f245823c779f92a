-- The calls that feed a file: each of them is served, each brings the end nearer, and what they answer is the file's run.
use mathlib.Core.Path.{◌≡◌, refl, sym, ap, ◌∙◌, subst}
use mathlib.Core.Bool.{Bool, true, false, cond, not, ◌&&◌}
use mathlib.Core.Logic.{⊎_elim}
use mathlib.Core.List.{List, [], ◌∷◌}
use Prim.Native.Nat.{ℕ, zero, suc, ◌+◌, ◌*◌, ◌≤◌, ◌<◌}
use native.Mathlib.Omega.{arith}
use borrow.Author.Tests.{eq-eqb, ltb-false, le-ltb, lt-leb}
use lib.Dec.{eqb, ltb}
use lib.ListN.{length}
use Rattle.sets.specs.Sets.{member, difference, bit, size}
use Rattle.sets.proofs.Laws.{by-test, clash, none, empty, difference_left, difference_right, difference_small, size_none}
use Rattle.entries.specs.Limits as limits
use Rattle.rules.specs.Instant.{due, sooner, at_g, occurred}
use Rattle.rules.specs.Calls.{refusal, unknown, not_after, before_now, after_call}
use Rattle.guarantees.specs.Types.{Table, Clock, Unset, At, State, Option, None, Some, Call, Instant}
use Rattle.guarantees.specs.History.{Event, by_call, after_calls, history}
use Rattle.guarantees.specs.Queries.{total, is_take, is_begin, is_completion}
use Rattle.guarantees.specs.Entries.{handed_in}
use Rattle.guarantees.proofs.Proper.{Fair}
use Rattle.guarantees.proofs.Walk
use Rattle.guarantees.proofs.Frames.{clock_g}
use Rattle.guarantees.proofs.Served.{sooner_is, sooner_never, before_sooner, due_drop, served_at}
use Rattle.guarantees.proofs.Invariant.{Good, mass, debt, sinks, debt_less, good_next}
use Rattle.guarantees.proofs.Releases.{balance_g}
use Rattle.guarantees.proofs.Completion.{due_times, not_late}
use Rattle.guarantees.proofs.Totals.{begins_of, takes_of, completes_of}
use Rattle.record.specs.Types.{Release}
use Rattle.run.specs.Run.{Moment, moment, first_time, released_at, released_after, run}
use Rattle.record.specs.FileClaim.{Feeds, answers, AllServed, jobs_done, of_task}
use Rattle.record.proofs.Lengths.{intervals_ended, releases_skipped}
use Rattle.record.specs.Cursor.{AllEarly}
use Rattle.record.proofs.Accepted.{Sorted}
use Rattle.record.proofs.Released.{NotBefore, After, fewer, Split, split, early}
use Rattle.record.proofs.Ends.{is_open, ends_paid, job_completes}

-- the releases that are left come after the clock
abbrev pub Ahead : Clock → List Release → Type 0
Ahead Unset rs = Unit {0}
Ahead (At u) rs = After u rs

none_first : (rs : List Release) → first_time rs ≡ None → rs ≡ []
none_first [] h = refl
none_first (r ∷ rs) h = absurd (let z : ◌≡◌ {A = ℕ} 0 1 = cc in omega arith)

first_after : (rs : List Release) (t : ℕ) → before_now (first_time rs) t ≡ false → NotBefore t rs
first_after [] t h = tt
first_after (r ∷ rs) t h = ltb-false r.time t h

first_ahead : (c : Clock) (rs : List Release) (t : ℕ) → Ahead c rs → first_time rs ≡ Some t → not_after c t ≡ false
first_ahead Unset rs t h e = refl
first_ahead (At u) [] t h e = absurd (let z : ◌≡◌ {A = ℕ} 0 1 = cc in omega arith)
first_ahead (At u) (r ∷ rs) t h e = let x : r.time ≡ t = cc in lt-leb t u (omega arith)

first_early : (present : ℕ) (rs : List Release) (t : ℕ) → Sorted present rs → first_time rs ≡ Some t → t ≤ limits.last_instant
unfolding Sorted
first_early present [] t h e = absurd (let z : ◌≡◌ {A = ℕ} 0 1 = cc in omega arith)
first_early present (r ∷ rs) t h e = let x : r.time ≡ t = cc in omega (arith, h.1)

first_fewer : (rs : List Release) (t : ℕ) → first_time rs ≡ Some t → length (released_after t rs) < length rs
first_fewer [] t e = absurd (let z : ◌≡◌ {A = ℕ} 0 1 = cc in omega arith)
first_fewer (r ∷ rs) t e = fewer t r rs (let x : r.time ≡ t = cc in x)

no_test : (w x y z : ℕ) (a b c e : Bool) → a ≡ false → b ≡ false → c ≡ false → e ≡ false → cond a w (cond b x (cond c y (cond e z 0))) ≡ 0
no_test w x y z a b c e f g h i = rw (f, g, h, i)

-- what a run of at most k instants has: its calls, what they answer, and how many events of a kind they have
pub record Fed (k : ℕ) (d : State) (rs : List Release) (ms : List Moment) : Type 0 where
  pub calls : List Call
  pub feeds : Feeds d rs calls
  pub all_served : AllServed d calls
  pub early : AllEarly calls
  pub gives : answers d calls ≡ ms
  pub within : length calls < k
  pub rests : due (after_calls d calls).phase ≡ None
  pub releases : total is_take (history d calls) + size (after_calls d calls).waiting.tasks + releases_skipped ms ≡ length rs + size d.waiting.tasks
  pub handed : (n : ℕ) → n < 32 → handed_in n d calls ≡ of_task n rs
  pub jobs : jobs_done ms ≡ total is_completion (history d calls)
  pub intervals : intervals_ended ms ≤ is_open d.phase + total is_begin (history d calls)

run_end : (k : ℕ) (d : State) (rs : List Release) → sooner (first_time rs) (due d.phase) ≡ None → run (suc k) d rs ≡ []
unfolding run
run_end k d rs e = rw (e, run)

fed_none : (k : ℕ) (d : State) → due d.phase ≡ None → Fed (suc k) d [] []
unfolding Feeds AllServed AllEarly answers after_calls history total jobs_done intervals_ended releases_skipped handed_in of_task
fed_none k d e = record {
  calls = [];
  feeds = (refl, e);
  all_served = tt;
  early = tt;
  gives = refl;
  within = omega arith;
  rests = e;
  releases = omega arith;
  handed = λ n l. refl;
  jobs = refl;
  intervals = omega arith;
}

fed_end : (k : ℕ) (d : State) (rs : List Release) → sooner (first_time rs) (due d.phase) ≡ None → Fed (suc k) d rs (run (suc k) d rs)
fed_end k d rs e =
    let x : (first_time rs ≡ None) × (due d.phase ≡ None) = sooner_never (first_time rs) (due d.phase) e in
    subst (Fed (suc k) d rs) (sym (run_end k d rs e)) (subst (λ (qs : List Release). Fed (suc k) d qs []) (sym (none_first rs x.0)) (fed_none k d x.1))

module _ (table : Table) (marks : ℕ) (fair : Fair table marks) where
  abbrev G : State → Type 0
  G d = Good table marks fair d

  -- a state that calls made, and the releases that are left
  pub record Fit (d : State) (rs : List Release) : Type 0 where
    pub good : G d
    pub sorted : Sorted table.present rs
    pub ahead : Ahead d.clock rs

  module _ (d : State) (rs : List Release) (t : ℕ) (fit : Fit d rs) (next : sooner (first_time rs) (due d.phase) ≡ Some t) where
    abbrev set : ℕ
    set = released_at t rs

    abbrev rest : List Release
    rest = released_after t rs

    in_time : (before_now (first_time rs) t ≡ false) × (before_now (due d.phase) t ≡ false)
    in_time = before_sooner (first_time rs) (due d.phase) t (ap (λ (x : Option ℕ). before_now x t) next ∙ le-ltb t t (omega arith))

    parts : Split table.present fair.present t 0 rs (released_at t rs) (released_after t rs)
    parts = split table.present fair.present t rs fit.sorted (first_after rs t in_time.0)

    -- 16
    none_unknown : eqb (difference (released_at t rs) d.table.present) 0 ≡ true
    none_unknown =
        subst (λ (x : Table). eqb (difference (released_at t rs) x.present) 0 ≡ true) (sym fit.good.table_is)
        (eq-eqb (difference set table.present) 0
        (empty (difference set table.present) (difference_small set table.present)
        (λ k l. by-test (member k (difference set table.present))
        (λ x. ⊎_elim (λ y. clash (member k 0) y (none k)) (λ y. clash (member k table.present) y (difference_right set table.present k x))
        (parts.known k (difference_left set table.present k x)))
        (λ x. x))))

    -- 10
    none_late : (not (eqb (released_at t rs) 0) && ltb limits.last_release t) ≡ false
    none_late =
        by-test (eqb set 0) (λ e. rw e) (λ e. rw e (le-ltb limits.last_release t (early table.present fair.present t rs fit.sorted e)))

    -- 14
    after_last : not_after d.clock t ≡ false
    after_last =
        ⊎_elim (first_ahead d.clock rs t fit.ahead)
        (λ e. not_late table marks fair d.clock t (due_times table marks fair d t fit.good e).after)
        (sooner_is (first_time rs) (due d.phase) t next)

    -- nor is an instant late
    not_far : t ≤ limits.last_instant
    not_far =
        ⊎_elim (first_early table.present rs t fit.sorted)
        (λ e. omega (arith, (due_times table marks fair d t fit.good e).bound, debt_less d fit.good.sound))
        (sooner_is (first_time rs) (due d.phase) t next)

    -- and 15: no row is met
    no_row : refusal d t (released_at t rs) ≡ 0
    unfolding refusal unknown
    no_row =
        no_test 16 10 14 15 (not (eqb (difference set d.table.present) 0)) (not (eqb set 0) && ltb limits.last_release t) (not_after d.clock t) (before_now (due d.phase) t)
        (ap not none_unknown) none_late after_last in_time.1

    pub is_served : eqb (refusal d t (released_at t rs)) 0 ≡ true
    is_served = eq-eqb (refusal d t set) 0 no_row

    pub state_is : after_call d (Instant t (released_at t rs)) ≡ at_g d t (released_at t rs)
    state_is = Walk.served d t set is_served

    pub fit_next : Fit (at_g d t (released_at t rs)) (released_after t rs)
    fit_next = record {
      good = good_next table marks fair d t set fit.good (served_at d t set is_served);
      sorted = parts.sorted;
      ahead = subst (λ (c : Clock). Ahead c rest) (sym (clock_g d t set)) parts.later;
    }

    -- a release is handed in, or a phase ends: a release raises the mass by 24 at most, and a phase that ends lowers it
    nearer : mass (at_g d t (released_at t rs)) + debt d + 25 * length (released_after t rs) + 1
        ≤ mass d + debt (at_g d t (released_at t rs)) + 25 * length rs
    nearer =
        ⊎_elim
        (λ e. omega (arith, sinks d t set fit.good.sound, parts.sizes, size_none, first_fewer rs t e))
        (λ e. omega (arith, sinks d t set fit.good.sound, parts.sizes, size_none, due_drop t d.phase e))
        (sooner_is (first_time rs) (due d.phase) t next)

    run_next : (k : ℕ)
        → run (suc k) d rs ≡ moment d t (released_at t rs) ∷ run k (at_g d t (released_at t rs)) (released_after t rs)
    unfolding run
    run_next k = rw (next, run)

    fed_more : (k : ℕ) (ms : List Moment) → Fed k (at_g d t (released_at t rs)) (released_after t rs) ms
        → Fed (suc k) d rs (moment d t (released_at t rs) ∷ ms)
    unfolding Feeds AllServed AllEarly answers after_calls history by_call jobs_done intervals_ended releases_skipped occurred handed_in
    fed_more k ms h =
        let g : State = at_g d t set in
        let es : List Event = history g h.calls in
        let waits-on : size (after_calls d (Instant t set ∷ h.calls)).waiting.tasks ≡ size (after_calls g h.calls).waiting.tasks =
        ap (λ (x : State). size (after_calls x h.calls).waiting.tasks) state_is in
        record {
          calls = Instant t set ∷ h.calls;
          feeds = (t, next, refl, subst (λ (x : State). Feeds x rest h.calls) (sym state_is) h.feeds);
          all_served = (refl, no_row, subst (λ (x : State). AllServed x h.calls) (sym state_is) h.all_served);
          early = (not_far, h.early);
          gives =
              rw is_served (ap (λ (x : State). moment d t set ∷ answers x h.calls) state_is ∙ ap (λ (l : List Moment). moment d t set ∷ l) h.gives);
          within = omega (arith, h.within);
          rests = ap (λ (x : State). due (after_calls x h.calls).phase) state_is ∙ h.rests;
          releases = rw (is_served, state_is) (omega (arith, takes_of d t set es, balance_g d t set, parts.sizes, size_none, h.releases, waits-on));
          handed = λ n l. rw (is_served, state_is) (omega (arith, h.handed n l, parts.each n l, ap bit (none n)));
          jobs = rw (is_served, state_is) (omega (arith, completes_of d t set es, job_completes d t set, h.jobs));
          intervals = rw (is_served, state_is) (omega (arith, begins_of d t set es, ends_paid d t set, h.intervals));
        }

  pub feeding : (k : ℕ) (d : State) (rs : List Release) → Fit d rs → mass d + 25 * length rs < k + debt d → Fed k d rs (run k d rs)
  feeding zero d rs f l = absurd (omega (arith, debt_less d f.good.sound))
  feeding (suc k) d rs f l = go (sooner (first_time rs) (due d.phase)) refl
      (λ t e. feeding k (at_g d t (released_at t rs)) (released_after t rs) (fit_next d rs t f e) (omega (arith, nearer d rs t f e)))
    where
      go : (x : Option ℕ) → sooner (first_time rs) (due d.phase) ≡ x
          → ((t : ℕ) → sooner (first_time rs) (due d.phase) ≡ Some t
          → let g : State = at_g d t (released_at t rs) in Fed k g (released_after t rs) (run k g (released_after t rs)))
          → Fed (suc k) d rs (run (suc k) d rs)
      go None e h = fed_end k d rs e
      go (Some t) e h =
          let g : State = at_g d t (released_at t rs) in
          subst (Fed (suc k) d rs) (sym (run_next d rs t f e k)) (fed_more d rs t f e k (run k g (released_after t rs)) (h t e))
