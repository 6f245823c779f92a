-- Each release of an input that is accepted leaves exactly one entry, a job done or a release skipped, with its task and its time. Along the run, for
-- each test of a release: the entries of an instant and what is pending or waits after it are what was pending or waited before it and what is released
-- at it. Assumes nothing.
use Rattle.std.proofs.Common.{◌≡◌, ◌&&◌, ◌||◌, ◌∷◌, ◌+◌, ◌<◌}
use Prim.Native.Nat.{◌^◌}
use native.Mathlib.Nat.{zero-add}
use native.Mathlib.Omega.{arith}
use borrow.Author.Tests.{eqb-true, eqb-false}
use lib.Dec.{eqb}
use lib.ListN.{length, get_or}
use Rattle.sets.specs.Sets.{member, union, insert, bit}
use Rattle.sets.proofs.Laws.{by-test, united, same_task, member_task, count_sum}
use Rattle.table.specs.Head.{head_read, head_of}
use Rattle.rules.specs.With.{at_clock}
use Rattle.rules.specs.Order.{highest_of}
use Rattle.rules.specs.Instant.{completed, after_done, without_done, step_a, close, step_b, too_soon, passing, taken, deferred, skipped, original, stamped, step_c, cancel, step_d, choose, step_e, begin, step_g, fresh_stage, at_a, at_b, taken_at, deferred_at, skipped_at, at_e, at_f, at_g, occurred}
use Rattle.rules.specs.Calls.{opened, after_call}
use Rattle.guarantees.specs.Types.{refl, sym, ap, ◌∙◌, subst, Bool, true, false, cond, not, List, [], ℕ, Table, Jobs, WaitingReleases, Option, JobEntry, None, Some, CopyOut, NoCopyOut, CopyingOut, CopiedOut, Interval, Phase, Between, Within, State, Stage, Call}
use Rattle.guarantees.specs.History.{after_calls}
use Rattle.guarantees.specs.States.{copyout_known}
use Rattle.guarantees.proofs.Cases.{held_at, b_cases, d_cases, e_cases, g_cases}
use Rattle.guarantees.proofs.Proper.{Fair}
use Rattle.guarantees.proofs.Places.{copyout_bit, Parted}
use Rattle.guarantees.proofs.Releases.{soon_at, too_soon_member, passing_member, waits_after, is_taken, is_deferred, is_skipped, is_waiting, taken_member, deferred_member, skipped_member, waits_member}
use Rattle.guarantees.proofs.Tallies.{stamped_length, stamped_exact}
use Rattle.guarantees.proofs.Closings.{done_so}
use Rattle.run.specs.Files.{Releases, releases_of}
use Rattle.run.specs.Run.{Moment, moment, released_from, released_at, released_after, moments_of}
use Rattle.run.proofs.Listing
use Rattle.record.specs.FileClaim.{Feeds, answers, Demand3Files}
use Rattle.record.proofs.Accepted.{Sorted, Accepted, accepted}
use Rattle.record.proofs.Released.{Under, none_under, under_more}
use Rattle.record.proofs.TasksAlone.{fair}
use Rattle.record.proofs.Feeding.{Fit, is_served, state_is, fit_next}
use Rattle.record.proofs.FileClaim.{fit, fed_file, demand_3_files}
use Rattle.reading.specs.Types.{Release}
use Rattle.reading.proofs.RunAttested.{done_attested, skips_attested, moment_attested, run_attested, tally}
use Rattle.reading.proofs.Keys.{count_threes, hits, among, among_none, among_removed, among_inserted, tally_append, skips_tally}

-- ---- what is pending and what waits, with the times of the releases

record Held : Type 0 where
  pending : ℕ
  release : List ℕ
  waiting : WaitingReleases

abbrev held : State → Held
held d = record { pending = d.jobs.pending; release = d.jobs.release; waiting = d.waiting }

-- the steps but a and c leave it
b_held : (s : Stage) (t : ℕ) → held (step_b s t s.state.phase).state ≡ held s.state
unfolding close
b_held s t = b_cases (λ x. held x ≡ held s.state) s t (λ i e o. refl) (λ next outgoing e. refl) (λ i e o. refl)

d_held : (d : State) (taken_now : ℕ) → held (step_d d taken_now d.phase) ≡ held d
unfolding cancel
d_held d taken_now = d_cases (λ x. held x ≡ held d) d taken_now refl (λ i n u e s b. refl)

choose_held : (d : State) (t : ℕ) (i : Interval) (q : Option ℕ) → held (choose d t i q) ≡ held d
unfolding choose
choose_held d t i None = refl
choose_held d t i (Some q) = refl

e_held : (d : State) (t : ℕ) → held (step_e d t d.phase) ≡ held d
e_held d t = e_cases (λ x. held x ≡ held d) d t refl (λ i e s u. choose_held d t i (highest_of d d.jobs.ready))

g_held : (d : State) (t taken_now : ℕ) → held (step_g d t taken_now d.phase) ≡ held d
unfolding begin
g_held d t taken_now =
    g_cases (λ x. held x ≡ held d) d t taken_now (λ i e. refl) (λ next outgoing e w. refl) (λ next outgoing e w. e_held (begin d t taken_now next outgoing) t)

held_b : (d : State) (t : ℕ) → held (at_b d t).state ≡ held (at_a d t).state
unfolding at_b
held_b d t = b_held (at_a d t) t

held_g : (d : State) (t set : ℕ) → held (at_g d t set) ≡ held (step_c (at_b d t).state t (taken_at d t set) (deferred_at d t set))
unfolding at_g at_f at_e
held_g d t set =
    let taken_now : ℕ = taken_at d t set in
    let c : State = step_c (at_b d t).state t taken_now (deferred_at d t set) in
    g_held (at_f d t set).state t (held_at d t set)
    ∙ b_held (fresh_stage (at_e d t set)) t ∙ e_held (step_d c taken_now c.phase) t ∙ d_held c taken_now

-- there is a time for each task, as at opening
record Long (h : Held) : Type 0 where
  release : length h.release ≡ 32
  times : length h.waiting.times ≡ 32

a_long : (d : State) (t : ℕ) (p : Phase) → Long (held d) → Long (held (step_a d t p).state)
unfolding step_a without_done
a_long d t (Between next outgoing) h = h
a_long d t (Within i) h = record { release = h.release; times = h.times }

b_long : (d : State) (t : ℕ) → Long (held d) → Long (held (at_b d t).state)
unfolding at_a
b_long d t h = subst Long (sym (held_b d t)) (a_long (at_clock d t) t d.phase (record { release = h.release; times = h.times }))

c_long : (d : State) (t taken_now deferred_now : ℕ) → Long (held d) → Long (held (step_c d t taken_now deferred_now))
unfolding step_c
c_long d t taken_now deferred_now h = record {
  release = stamped_length taken_now (original d.waiting t) 0 d.jobs.release ∙ h.release;
  times = stamped_length deferred_now (λ k. t) 0 d.waiting.times ∙ h.times;
}

g_long : (d : State) (t set : ℕ) → Long (held d) → Long (held (at_g d t set))
g_long d t set h = subst Long (sym (held_g d t set)) (c_long (at_b d t).state t (taken_at d t set) (deferred_at d t set) (b_long d t h))

-- ---- for each test of a release

module _ (test : Release → Bool) where
  -- how many pending jobs and waiting releases pass it
  unfoldable held_with : Held → ℕ
  held_with h = among test h.pending (λ n. get_or h.release n 0) + among test h.waiting.tasks (λ n. get_or h.waiting.times n 0)

  -- a: a job that is done was pending
  a_jobs : (j : Jobs) (t : ℕ) (o : CopyOut) → ((n start until : ℕ) → o ≡ CopyingOut n start until → (n < 32) × (member n j.pending ≡ true))
      → tally test (done_attested (completed j t o)) + among test (after_done j.pending (completed j t o)) (λ n. get_or j.release n 0)
      ≡ among test j.pending (λ n. get_or j.release n 0)
  unfolding completed tally
  a_jobs j t NoCopyOut h = omega arith
  a_jobs j t (CopyingOut n start until) h =
      by-test (eqb until t)
      (λ e. rw e (omega (arith, among_removed test n (λ n. get_or j.release n 0) (h n start until refl).0 j.pending (h n start until refl).1)))
      (λ e. rw e (omega arith))
  a_jobs j t (CopiedOut n) h = omega arith

  a_leaves : (present : ℕ) (tasks : present < 2 ^ 32) (d : State) (t : ℕ) (p : Phase) → Parted present tasks d p
      → tally test (done_attested (step_a d t p).done) + held_with (held (step_a d t p).state) ≡ held_with (held d)
  unfolding step_a without_done held_with tally
  a_leaves present tasks d t (Between next outgoing) h = omega arith
  a_leaves present tasks d t (Within i) h = omega (arith, a_jobs d.jobs t i.copyout there)
    where
      there : (n start until : ℕ) → i.copyout ≡ CopyingOut n start until → (n < 32) × (member n d.jobs.pending ≡ true)
      there n start until e =
          let l : n < 32 = member_task n present tasks (subst (copyout_known present) e h.known.2) in
          let one : copyout_bit n i.copyout ≡ 1 = ap (copyout_bit n) e ∙ rw (same_task n) in
          (l, by-test (member n d.jobs.pending) (λ m. m) (λ m. absurd (omega (arith, rw m at (h.parts n l)))))

  -- c: a release is taken, and pending from now on, or waits, or is skipped; one that waited is taken with its time
  c_leaves : (d : State) (t set : ℕ) → Long (held d)
      → among test (skipped d set) (λ n. t) + held_with (held (step_c d t (taken d set) (deferred d set))) ≡ held_with (held d) + among test set (λ n. t)
  unfolding step_c held_with among
  c_leaves d t set long =
      let p : ℕ = d.jobs.pending in
      let taken_now : ℕ = taken d set in
      let deferred_now : ℕ = deferred d set in
      let w : WaitingReleases = d.waiting in
      let xs : List ℕ = d.jobs.release in
      let at-release : ℕ → ℕ = λ n. get_or (stamped taken_now (original w t) 0 xs) n 0 in
      let at_waiting : ℕ → ℕ = λ n. get_or (stamped deferred_now (λ k. t) 0 w.times) n 0 in
      omega (
        arith,
        count_threes 32 (λ n. member n (skipped d set) && hits test t n) (λ n. member n (union p taken_now) && hits test (at-release n) n)
            (λ n. member n (waits_after d set) && hits test (at_waiting n) n)
            (λ n. member n p && hits test (get_or xs n 0) n) (λ n. member n w.tasks && hits test (get_or w.times n 0) n) (λ n. member n set && hits test t n)
            (λ n l.
            rw (
              skipped_member d set n l,
              waits_member d set n l,
              stamped_at taken_now (original w t) xs n l long.release,
              stamped_at deferred_now (λ k. t) w.times n l long.times,
              united p taken_now n l,
              taken_member d set n l,
              deferred_member d set n l,
            ) (parts (member n p) (member n w.tasks) (member n set) n (get_or xs n 0) (get_or w.times n 0))),
      )
    where
      stamped_at : (s : ℕ) (f : ℕ → ℕ) (xs : List ℕ) (n : ℕ) → n < 32 → length xs ≡ 32 → get_or (stamped s f 0 xs) n 0 ≡ cond (member n s) (f n) (get_or xs n 0)
      stamped_at s f xs n l e = stamped_exact s f 0 xs n (omega arith) ∙ ap (λ (j : ℕ). cond (member j s) (f j) (get_or xs n 0)) (zero-add n)

      parts : (p w s : Bool) (n x y : ℕ)
          → bit (is_skipped p w s && hits test t n) + bit ((p || is_taken p w s) && hits test (cond (is_taken p w s) (cond w y t) x) n)
          + bit (is_waiting p w s && hits test (cond (is_deferred p w s) t y) n)
          ≡ bit (p && hits test x n) + bit (w && hits test y n) + bit (s && hits test t n)
      parts true true true n x y = omega arith
      parts true true false n x y = omega arith
      parts true false true n x y = omega arith
      parts true false false n x y = omega arith
      parts false true true n x y = omega arith
      parts false true false n x y = omega arith
      parts false false true n x y = omega arith
      parts false false false n x y = omega arith

  -- 8/13: of those that are handed in some pass, and the others come too soon and are skipped
  passing_apart : (d : State) (t set : ℕ) → among test set (λ n. t) ≡ among test (passing d t set) (λ n. t) + among test (too_soon d t set) (λ n. t)
  unfolding among
  passing_apart d t set =
      count_sum 32 (λ n. member n set && hits test t n) (λ n. member n (passing d t set) && hits test t n) (λ n. member n (too_soon d t set) && hits test t n)
      (λ n l. rw (passing_member d t set n l, too_soon_member d t set n l) (go (member n set) (soon_at d t n) (hits test t n)))
    where
      go : (s x h : Bool) → bit (s && h) ≡ bit ((s && not x) && h) + bit ((s && x) && h)
      go true true true = refl
      go true true false = refl
      go true false true = refl
      go true false false = refl
      go false x h = refl

  skipped_apart : (d : State) (t set : ℕ)
      → among test (union (too_soon d t set) (skipped d (passing d t set))) (λ n. t) ≡ among test (too_soon d t set) (λ n. t) + among test (skipped d (passing d t set)) (λ n. t)
  unfolding among
  skipped_apart d t set =
      let behind : ℕ = skipped d (passing d t set) in
      count_sum 32 (λ n. member n (union (too_soon d t set) behind) && hits test t n) (λ n. member n (too_soon d t set) && hits test t n) (λ n. member n behind && hits test t n)
      (λ n l. rw (united (too_soon d t set) behind n l, too_soon_member d t set n l, skipped_member d (passing d t set) n l, passing_member d t set n l)
      (go (member n d.jobs.pending) (member n d.waiting.tasks) (member n set) (soon_at d t n) (hits test t n)))
    where
      go : (p w s x h : Bool) → bit (((s && x) || is_skipped p w (s && not x)) && h) ≡ bit ((s && x) && h) + bit (is_skipped p w (s && not x) && h)
      go true true true true h = omega arith
      go true true true false h = omega arith
      go true true false x h = omega arith
      go true false true true h = omega arith
      go true false true false h = omega arith
      go true false false x h = omega arith
      go false w true true h = omega arith
      go false w true false h = omega arith
      go false w false x h = omega arith

  -- an instant
  instant_leaves : (present : ℕ) (tasks : present < 2 ^ 32) (d : State) (t set : ℕ) → Parted present tasks d d.phase → Long (held d)
      → tally test (moment_attested (moment d t set)) + held_with (held (at_g d t set)) ≡ held_with (held d) + among test set (λ n. t)
  unfolding moment_attested occurred taken_at deferred_at skipped_at
  instant_leaves present tasks d t set h long =
      let a : Stage = at_a d t in
      let b : State = (at_b d t).state in
      let from-a : tally test (done_attested a.done) + held_with (held a.state) ≡ held_with (held d) =
      unfold at_a in a_leaves present tasks (at_clock d t) t d.phase (record { few = h.few; marks = h.marks; pending = h.pending; ready = h.ready; waits = h.waits; known = h.known; parts = h.parts }) in
      omega (
        arith,
        tally_append test (done_attested (at_b d t).done) (skips_attested 32 (union (too_soon b t set) (skipped b (passing b t set))) t),
        skips_tally test (union (too_soon b t set) (skipped b (passing b t set))) t,
        skipped_apart b t set,
        passing_apart b t set,
        ap (λ (o : Option JobEntry). tally test (done_attested o)) (done_so d t set),
        c_leaves b t (passing b t set) (b_long d t long),
        ap held_with (held_b d t),
        ap held_with (held_g d t set),
      )

  -- the releases at a time are those of the set, and the others come after it
  releases_apart : (present : ℕ) (tasks : present < 2 ^ 32) (t set : ℕ) (rs : List Release) → Sorted present rs → Under t set rs
      → among test (released_from t set rs) (λ n. t) + tally test (released_after t rs) ≡ among test set (λ n. t) + tally test rs
  unfolding Sorted tally
  releases_apart present tasks t set [] h u = unfold released_from released_after in refl
  releases_apart present tasks t set (r ∷ rs) h u =
      by-test (eqb r.time t)
      (λ e.
      let x : r.time ≡ t = eqb-true r.time t e in
      let fresh : member r.task set ≡ false = by-test (member r.task set) (λ m. absurd (omega (arith, u x r.task m))) (λ m. m) in
      rw (Listing.taken t set r rs x, Listing.after_taken t set r rs x)
      (omega (
        arith,
        releases_apart present tasks t (insert r.task set) rs h.3 (under_more t set r rs x (u x) h.2),
        among_inserted test r.task (λ n. t) (member_task r.task present tasks h.0) set fresh,
        ap (λ (y : ℕ). bit (hits test y r.task)) x,
      )))
      (λ e.
      let x : r.time ≡ t → ⊥ = eqb-false r.time t e in
      rw (Listing.later t set r rs x, Listing.after_later t set r rs x))

  -- where nothing is pending and nothing waits nothing passes
  none_held : (d : State) → d.jobs.pending ≡ 0 → d.waiting.tasks ≡ 0 → held_with (held d) ≡ 0
  unfolding held_with
  none_held d e f = rw (e, f) (omega (arith, among_none test (λ n. get_or d.jobs.release n 0), among_none test (λ n. get_or d.waiting.times n 0)))

  -- along the calls that feed a file
  module _ (table : Table) (marks : ℕ) (fair : Fair table marks) where
    feed_leaves : (cs : List Call) (d : State) (rs : List Release) → Fit table marks fair d rs → Long (held d) → Feeds d rs cs
        → tally test (run_attested (answers d cs)) + held_with (held (after_calls d cs)) ≡ held_with (held d) + tally test rs
    unfolding Feeds answers after_calls run_attested tally
    feed_leaves [] d rs fit long feeds = rw feeds.0 (omega arith)
    feed_leaves (c ∷ cs) d rs fit long feeds =
        let t : ℕ = feeds.0 in
        let set : ℕ = released_at t rs in
        let rest : List Release = released_after t rs in
        let g : State = at_g d t set in
        let m : Moment = moment d t set in
        let state : after_call d c ≡ g = ap (after_call d) feeds.2 ∙ state_is table marks fair d rs t fit feeds.1 in
        let last : after_calls d (c ∷ cs) ≡ after_calls g cs = ap (λ (x : State). after_calls x cs) state in
        let gives : answers d (c ∷ cs) ≡ m ∷ answers g cs =
        ap (λ (x : Call). answers d (x ∷ cs)) feeds.2
        ∙ rw (is_served table marks fair d rs t fit feeds.1) (ap (λ (x : State). m ∷ answers x cs) (state_is table marks fair d rs t fit feeds.1)) in
        omega (
          arith,
          ap (λ (ms : List Moment). tally test (run_attested ms)) gives,
          ap (λ (x : State). held_with (held x)) last,
          tally_append test (moment_attested m) (run_attested (answers g cs)),
          instant_leaves table.present fair.present d t set fit.good.parted long,
          feed_leaves cs g rest (fit_next table marks fair d rs t fit feeds.1) (g_long d t set long) (subst (λ (x : State). Feeds x rest cs) state feeds.3),
          releases_apart table.present fair.present t 0 rs fit.sorted (none_under t rs),
          among_none test (λ n. t),
        )

-- ---- the file's run

-- of each test the run has as many entries that pass it as the input has releases
pub leaves_one : (s : List ℕ) (rs : List Release) → releases_of s ≡ Releases rs → (test : Release → Bool) → tally test (run_attested (moments_of s rs)) ≡ tally test rs
unfolding Demand3Files
leaves_one s rs h test =
    let a : Accepted s rs = accepted s rs h in
    let d : State = opened (head_read (head_of s)).table (head_read (head_of s)).marked in
    let f = fed_file s rs h in
    let claim = (demand_3_files s rs h).of_the_feed f.calls f.feeds in
    let fed : tally test (run_attested (answers d f.calls)) + held_with test (held (after_calls d f.calls)) ≡ held_with test (held d) + tally test rs =
    feed_leaves test (head_read (head_of s)).table (head_read (head_of s)).marked (fair s rs a) f.calls d rs (fit s rs a) (unfold opened in record { release = refl; times = refl }) f.feeds in
    omega (
      arith,
      fed,
      ap (λ (ms : List Moment). tally test (run_attested ms)) f.gives,
      none_held test (after_calls d f.calls) claim.nothing_pending claim.nothing_waits,
      none_held test d (unfold opened in refl) (unfold opened in refl),
    )
