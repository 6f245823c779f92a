-- At most one interval closes at an instant, and each job that completes has its entry.
use Rattle.std.proofs.Common.{◌≡◌, ◌∷◌, ◌++◌, ◌⊎◌}
use Rattle.guarantees.specs.Types.{refl, sym, ap, ◌∙◌, Bool, true, false, List, [], inl, inr, ⊎_elim, ℕ, Interval, Phase, Between, Within, State, Stage, Option, JobEntry, None, Some, Closed, NoInterval, Span, Occurred, IntervalEntry, Call}
use native.Mathlib.Omega.{arith}
use Rattle.rules.specs.With.{at_clock}
use Rattle.rules.specs.Instant.{step_a, step_b, close, close_stage, closing, occurred, over, copyout_task, copyout_at, at_a, at_b, at_e, at_f, at_g, taken_at, deferred_at, fresh_stage}
use Rattle.guarantees.specs.History.{Event, Comes, history, happens, processor_events_in, finish_events_in, completion_events, end_events, take_events, defer_events, giving_events_in, begin_events, start_events}
use Rattle.guarantees.specs.Queries.{NoneOpen, each}
use Rattle.guarantees.specs.Entries.{all_occurred, Completion, completed_in, done, completions, closed_in}
use Rattle.guarantees.proofs.Walk.{walk_told}
use Rattle.guarantees.proofs.Cases.{copyout_cases}
use Rattle.guarantees.proofs.Events.{by_processor, by_finishes, by_gives, by_ends, by_takes, by_defers, by_begins, by_starts, tail_of, happens_parts, front_parts, tail_parts}
use Rattle.guarantees.proofs.Order.{situation_of, situation_e}

-- ---- the open interval

pub copyout_task_same : (t : ℕ) (i : Interval) → copyout_task (copyout_at t i.copyout) ≡ copyout_task i.copyout
copyout_task_same t i = copyout_cases t (λ o. copyout_task o ≡ copyout_task i.copyout) i.copyout refl (λ n s u e b. ap copyout_task (sym e))

abbrev pub closed_of : Closed → List IntervalEntry
closed_of NoInterval = []
closed_of (Span e) = e ∷ []

-- ---- at most one interval ends at an instant

b_shuts : (s : Stage) (t : ℕ) (p : Phase) → s.closed ≡ NoInterval → ((step_b s t p).closed ≡ NoInterval) ⊎ (situation_of (step_b s t p).state.phase ≡ NoneOpen)
unfolding step_b close_stage close
b_shuts s t (Between next outgoing) n = inl n
b_shuts s t (Within i) n = go (over i)
  where
    go : (b : Bool) → ((close_stage s t i b).closed ≡ NoInterval) ⊎ (situation_of (close_stage s t i b).state.phase ≡ NoneOpen)
    go true = unfold close_stage close in inr refl
    go false = unfold close_stage in inl n

f_none : (e : State) (t : ℕ) (p : Phase) → situation_of p ≡ NoneOpen → (step_b (fresh_stage e) t p).closed ≡ NoInterval
unfolding step_b
f_none e t (Between next outgoing) h = refl
f_none e t (Within i) h = absurd (let z : ◌≡◌ {A = ℕ} 0 1 = cc in omega arith)

pub closing_is : (b f : Closed) → (b ≡ NoInterval) ⊎ (f ≡ NoInterval) → (ys : List IntervalEntry) → closed_of b ++ (closed_of f ++ ys) ≡ closed_in (closing b f) ++ ys
closing_is NoInterval NoInterval h ys = refl
closing_is NoInterval (Span e) h ys = refl
closing_is (Span e) f h ys =
    ⊎_elim (λ z. absurd (let y : ◌≡◌ {A = ℕ} 0 1 = cc in omega arith)) (λ z. ap (λ (c : Closed). e ∷ (closed_of c ++ ys)) z) h

pub a_none : (d : State) (t : ℕ) (p : Phase) → (step_a d t p).closed ≡ NoInterval
unfolding step_a
a_none d t (Between next outgoing) = refl
a_none d t (Within i) = refl

module _ (d : State) (t set : ℕ) where
  pub one_closes : ((at_b d t).closed ≡ NoInterval) ⊎ ((at_f d t set).closed ≡ NoInterval)
  unfolding at_b at_f at_a
  one_closes =
      ⊎_elim (λ z. inl z) (λ z. inr (f_none (at_e d t set) t (at_e d t set).phase (situation_e d t set ∙ z)))
      (b_shuts (at_a d t) t (at_a d t).state.phase (a_none (at_clock d t) t d.phase))

-- ---- the jobs done

abbrev Same : List Event → List Event → Type 0
Same ys zs = completions zs ≡ completions ys

b_done : (s : Stage) (t : ℕ) (p : Phase) → (step_b s t p).done ≡ s.done
unfolding step_b close_stage
b_done s t (Between next outgoing) = refl
b_done s t (Within i) = go (over i)
  where
    go : (b : Bool) → (close_stage s t i b).done ≡ s.done
    go true = refl
    go false = refl

pub done_so : (d : State) (t set : ℕ) → (occurred d t set).done ≡ (at_a d t).done
unfolding occurred at_b
done_so d t set = b_done (at_a d t) t (at_a d t).state.phase

completes_so : (o : Option JobEntry) (ys : List Event) → completions (completion_events o ++ ys) ≡ completed_in o ++ completions ys
unfolding completion_events each
completes_so None ys = refl
completes_so (Some e) ys = refl

happens_completions : (d : State) (t set : ℕ) (h : List Event) → completions (happens d t set ++ h) ≡ completed_in (occurred d t set).done ++ completions h
happens_completions d t set h =
    let rest : List Event = take_events 32 (taken_at d t set) d.marked t ++ (tail_of d t set ++ h) in
    let ends_b : List Event = end_events t (at_a d t).state.phase (at_b d t).state.phase in
    let c : List Event = completion_events (at_a d t).done in
    let begins : List Event = begin_events t (at_f d t set).state.phase (at_g d t set).phase in
    let starts : List Event = start_events t (at_f d t set).state.phase (at_g d t set).phase in
    let f : List Event = finish_events_in t d.phase ++ (c ++ (ends_b ++ rest)) in
    ap completions (happens_parts d t set h ∙ front_parts d t rest)
    ∙ front (c ++ (ends_b ++ rest))
    ∙ completes_so (at_a d t).done (ends_b ++ rest)
    ∙ ap (λ (z : List Completion). completed_in (at_a d t).done ++ z)
    (skip_ends (at_a d t).state.phase (at_b d t).state.phase rest ∙ skip_takes (tail_of d t set ++ h) ∙ ap completions (tail_parts d t set h)
    ∙ skip_defers (giving_events_in (at_b d t).state.phase (at_e d t set).phase ++ (end_events t (at_e d t set).phase (at_f d t set).state.phase ++ (begins ++ (starts ++ h))))
    ∙ skip_gives (at_b d t).state.phase (at_e d t set).phase (end_events t (at_e d t set).phase (at_f d t set).state.phase ++ (begins ++ (starts ++ h)))
    ∙ skip_ends (at_e d t set).phase (at_f d t set).state.phase (begins ++ (starts ++ h)) ∙ skip_begins (at_f d t set).state.phase (at_g d t set).phase)
    ∙ ap (λ (o : Option JobEntry). completed_in o ++ completions h) (sym (done_so d t set))
  where
    front : (zs : List Event) → completions (Comes t ∷ (processor_events_in t d.phase ++ (finish_events_in t d.phase ++ zs))) ≡ completions zs
    front zs =
        unfold each in by_processor (Same zs) (λ n u es e. e) (λ n u es e. e) t d.phase (finish_events_in t d.phase ++ zs)
        (by_finishes (Same zs) (λ n es e. e) t d.phase zs refl)

    skip_ends : (p q : Phase) (zs : List Event) → completions (end_events t p q ++ zs) ≡ completions zs
    skip_ends p q zs = unfold each in by_ends (Same zs) t (λ es e. e) p q zs refl

    skip_takes : (zs : List Event) → completions (take_events 32 (taken_at d t set) d.marked t ++ zs) ≡ completions zs
    skip_takes zs = unfold each in by_takes (Same zs) 32 (taken_at d t set) d.marked t (λ n l m es e. e) zs refl

    skip_defers : (zs : List Event) → completions (defer_events 32 (deferred_at d t set) t ++ zs) ≡ completions zs
    skip_defers zs = unfold each in by_defers (Same zs) 32 (deferred_at d t set) t (λ n l m es e. e) zs refl

    skip_gives : (p q : Phase) (zs : List Event) → completions (giving_events_in p q ++ zs) ≡ completions zs
    skip_gives p q zs = unfold each in by_gives (Same zs) (λ n es e. e) p q zs refl

    skip_begins : (p q : Phase) → completions (begin_events t p q ++ (start_events t p q ++ h)) ≡ completions h
    skip_begins p q = unfold each in by_begins (Same h) t (λ r l es e. e) p q (start_events t p q ++ h) (by_starts (Same h) t (λ n es e. e) p q h refl)

pub all_done : (cs : List Call) (d : State) → done (all_occurred d cs) ≡ completions (history d cs)
all_done =
    walk_told (λ d os h. done os ≡ completions h)
    (λ d. unfold done each in refl)
    (λ d t set cs e k.
    next_done (occurred d t set) (all_occurred (at_g d t set) cs) (completions (history (at_g d t set) cs)) k ∙ sym (happens_completions d t set (history (at_g d t set) cs)))
    (λ d m os h k. k)
  where
    next_done : (o : Occurred) (os : List Occurred) (l : List Completion) → done os ≡ l → done (o ∷ os) ≡ completed_in o.done ++ l
    next_done o os l e = unfold done in ap (λ (z : List Completion). completed_in o.done ++ z) e
