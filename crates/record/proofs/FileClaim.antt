-- Demand 3 for files: the claim holds of every input that is accepted.
use mathlib.Core.Path.{◌≡◌, refl, sym, ap, ◌∙◌, subst}
use mathlib.Core.List.{List, [], ◌∷◌, append-nil}
use Prim.Native.Nat.{ℕ, ◌+◌}
use native.Mathlib.Omega.{arith}
use lib.ListN.{length}
use Rattle.sets.specs.Sets.{size}
use Rattle.sets.proofs.Laws.{by-test, size_none}
use Rattle.entries.specs.Limits as limits
use Rattle.table.specs.Head.{head_read, head_of}
use Rattle.rules.specs.Instant.{due, sooner}
use Rattle.rules.specs.Calls.{opened, serves, after_call}
use Rattle.guarantees.specs.Types.{State, Option, None, Some, Call, Instant, Occurred}
use Rattle.guarantees.specs.History.{after_calls, history, EmptySets}
use Rattle.guarantees.specs.Queries.{total, is_take}
use Rattle.guarantees.specs.Claim.{AllCompleted}
use Rattle.guarantees.specs.Releases.{Balance}
use Rattle.guarantees.specs.Entries.{answer_of, handed_in, skips, done, closed}
use Rattle.record.proofs.Lengths.{releases_skipped}
use Rattle.guarantees.specs.Entries.{all_occurred}
use Rattle.guarantees.proofs.Invariant.{mass, good_opened}
use Rattle.record.specs.Types.{Release}
use Rattle.run.specs.Files.{Releases, releases_of}
use Rattle.run.specs.Run.{first_time, released_at, released_after, moments_of}
use Rattle.record.specs.FileClaim.{Feeds, answers, occurrences, FedClaim, Demand3Files}
use Rattle.guarantees.specs.Requests.{fresh}
use Rattle.record.specs.Requests.{by_commits}
use Rattle.record.proofs.Requests.{as_calls, as_commits}
use Rattle.record.proofs.Accepted.{Accepted, accepted}
use Rattle.record.proofs.TasksAlone.{opens, fair, claim}
use Rattle.record.proofs.Feeding.{Fit, Fed, feeding}

-- ---- there is one way to feed a file

pub not_over : (d : State) (rs : List Release) (t : ℕ) → rs ≡ [] → due d.phase ≡ None → sooner (first_time rs) (due d.phase) ≡ Some t → ⊥
unfolding sooner
not_over d rs t e h x =
    let y : None ≡ Some t = subst (λ (u : Option ℕ). sooner None u ≡ Some t) h (subst (λ (qs : List Release). sooner (first_time qs) (due d.phase) ≡ Some t) e x) in
    let z : ◌≡◌ {A = ℕ} 0 1 = cc in
    omega arith

one_feed : (cs es : List Call) (d : State) (rs : List Release) → Feeds d rs cs → Feeds d rs es → cs ≡ es
unfolding Feeds
one_feed [] [] d rs h g = refl
one_feed [] (e ∷ es) d rs h g = absurd (not_over d rs g.0 h.0 h.1 g.1)
one_feed (c ∷ cs) [] d rs h g = absurd (not_over d rs h.0 g.0 g.1 h.1)
one_feed (c ∷ cs) (e ∷ es) d rs h g =
    let t : h.0 ≡ g.0 = same h.0 g.0 (sym h.1 ∙ g.1) in
    let x : c ≡ e = h.2 ∙ ap (λ (u : ℕ). Instant u (released_at u rs)) t ∙ sym g.2 in
    ap (λ (l : List Call). c ∷ l)
    (one_feed cs es (after_call d c) (released_after h.0 rs) h.3
    (subst (λ (u : ℕ). Feeds (after_call d c) (released_after u rs) es) (sym t) (subst (λ (y : Call). Feeds (after_call d y) (released_after g.0 rs) es) (sym x) g.3)))
    ∙ ap (λ (y : Call). y ∷ es) x
  where
    same : (t u : ℕ) → Some t ≡ Some u → t ≡ u
    same t u e = cc

-- ---- what the moments have is what the calls answer

pub as_answered : (cs : List Call) (d : State) → occurrences (answers d cs) ≡ all_occurred d cs
unfolding answers occurrences all_occurred answer_of
as_answered [] d = refl
as_answered (c ∷ cs) d = by-test (serves d c) (λ e. rw (e, as_answered cs (after_call d c))) (λ e. rw (e, as_answered cs (after_call d c)))

-- ---- the file's run

module _ (s : List ℕ) (rs : List Release) (a : Accepted s rs) where
  abbrev d : State
  d = opened (head_read (head_of s)).table (head_read (head_of s)).marked

  pub fit : Fit (head_read (head_of s)).table (head_read (head_of s)).marked (fair s rs a) (opened (head_read (head_of s)).table (head_read (head_of s)).marked) rs
  fit = record { good = good_opened (head_read (head_of s)).table (head_read (head_of s)).marked (fair s rs a); sorted = a.sorted; ahead = unfold opened in tt }

  none_yet : mass (opened (head_read (head_of s)).table (head_read (head_of s)).marked) ≡ 0
  unfolding mass opened
  none_yet = omega (arith, size_none)

  -- a run has at most 25 instants for each release
  pub fed : Fed (limits.budget (length rs)) (opened (head_read (head_of s)).table (head_read (head_of s)).marked) rs (moments_of s rs)
  unfolding moments_of
  fed = feeding (head_read (head_of s)).table (head_read (head_of s)).marked (fair s rs a) (limits.budget (length rs)) d rs fit (omega (arith, none_yet))

  pub completed : AllCompleted (history (opened (head_read (head_of s)).table (head_read (head_of s)).marked) fed.calls)
  completed =
      subst (λ (cs : List Call). AllCompleted (history d cs)) (append-nil fed.calls)
      ((claim s rs a fed.calls).complete_every_job [] (unfold EmptySets in fed.rests))

  none_waits : (after_calls (opened (head_read (head_of s)).table (head_read (head_of s)).marked) fed.calls).waiting.tasks ≡ 0
  none_waits =
      subst (λ (cs : List Call). (after_calls d cs).waiting.tasks ≡ 0) (append-nil fed.calls)
      ((claim s rs a fed.calls).nothing_waits [] (unfold EmptySets in fed.rests))

  none_waits_yet : size (opened (head_read (head_of s)).table (head_read (head_of s)).marked).waiting.tasks ≡ 0
  unfolding opened
  none_waits_yet = size_none

  pub releases_so : total is_take (history (opened (head_read (head_of s)).table (head_read (head_of s)).marked) fed.calls) + releases_skipped (moments_of s rs) ≡ length rs
  releases_so = omega (arith, fed.releases, ap size none_waits, size_none, none_waits_yet)

  -- what the record is made of, and what the feed answers
  same : all_occurred (opened (head_read (head_of s)).table (head_read (head_of s)).marked) fed.calls ≡ occurrences (moments_of s rs)
  same = sym (as_answered fed.calls d) ∙ ap occurrences fed.gives

  fed_claim : FedClaim (opened (head_read (head_of s)).table (head_read (head_of s)).marked) rs (moments_of s rs) fed.calls
  fed_claim = record {
    all_served = fed.all_served;
    gives_record = fed.gives;
    by_commits_too = as_calls (by_commits (fresh d) fed.calls) (fresh d) ∙ ap (answers d) (as_commits fed.calls (fresh d)) ∙ fed.gives;
    by_requests = λ requests e. as_calls requests (fresh d) ∙ ap (answers d) e ∙ fed.gives;
    within_budget = fed.within;
    claim = claim s rs a fed.calls;
    each_done = sym (ap done same) ∙ (claim s rs a fed.calls).entries.each_done;
    each_interval = sym (ap closed same) ∙ (claim s rs a fed.calls).entries.each_interval;
    nothing_pending =
        subst (λ (cs : List Call). (after_calls d cs).jobs.pending ≡ 0) (append-nil fed.calls)
        ((claim s rs a fed.calls).nothing_pending [] (unfold EmptySets in fed.rests));
    nothing_waits = none_waits;
    complete_every_job = completed;
    each_release = λ n l.
        subst (λ (handed : ℕ). Balance n handed (skips n (occurrences (moments_of s rs))) (history d fed.calls)) (fed.handed n l)
        (subst (λ (os : List Occurred). Balance n (handed_in n d fed.calls) (skips n os) (history d fed.calls)) same
        ((claim s rs a fed.calls).entries.each_release fed.calls [] n (sym (append-nil fed.calls)) l));
    an_entry_each = fed.jobs ∙ completed.as_many;
  }

pub fed_file : (s : List ℕ) (rs : List Release) → releases_of s ≡ Releases rs
    → Fed (limits.budget (length rs)) (opened (head_read (head_of s)).table (head_read (head_of s)).marked) rs (moments_of s rs)
fed_file s rs h = fed s rs (accepted s rs h)

pub demand_3_files : Demand3Files
unfolding Demand3Files
demand_3_files s rs h =
    let a : Accepted s rs = accepted s rs h in
    let d : State = opened (head_read (head_of s)).table (head_read (head_of s)).marked in
    let f : Fed (limits.budget (length rs)) d rs (moments_of s rs) = fed s rs a in
    record {
      opens = opens s rs a;
      come_to_an_end = (f.calls, f.feeds);
      of_the_feed = λ cs g. subst (FedClaim d rs (moments_of s rs)) (one_feed f.calls cs d rs f.feeds g) (fed_claim s rs a);
    }
