-- What each step can do, as a rule for proofs: it leaves the state as it is, or does the one thing that it is for. A proof about a step
-- gives its claim for each of the cases; where a rule of the instant list changes, its case changes here.
use Rattle.std.proofs.Common.{◌≡◌, ◌⊎◌}
use Rattle.guarantees.specs.Types.{refl, Bool, true, false, cond, inl, inr, ⊎_elim, ℕ, Table, Processor, Idle, CopyingIn, Executing, Finished, CopyOut, NoCopyOut, CopyingOut, CopiedOut, CopyIn, Unchosen, NoneChosen, Copying, Loaded, Cancelled, Interval, Next, Outgoing, Phase, Between, Within, State, Stage}
use lib.Dec.{eqb}
use Rattle.table.specs.Table.{execution_length}
use Rattle.sets.specs.Sets.{intersection}
use Rattle.rules.specs.Instant.{processor_at, copyout_at, copyin_at, over, close, close_stage, step_b, copying_out, cancel, cancel_by, step_d, choose, choose_if, step_e, begin, wanted, step_g, step_a, without_done, completed, ended, at_b, taken_at, held_over}
use Rattle.rules.specs.With.{later, with_phase, with_jobs}
use Rattle.rules.specs.Order.{outranks, highest_of}

abbrev pub is_unchosen : CopyIn → Bool
is_unchosen Unchosen = true
is_unchosen NoneChosen = false
is_unchosen (Copying n until) = false
is_unchosen (Loaded n) = false
is_unchosen (Cancelled n fate) = false

-- the engine holds task n's job: its copy-in is under way, or finished
abbrev pub Held : CopyIn → ℕ → Type 0
Held k n = ((until : ℕ) × (k ≡ Copying n until)) ⊎ (k ≡ Loaded n)

-- with the fate that it has where it gives way
abbrev pub HeldFor : CopyIn → ℕ → ℕ → Type 0
HeldFor k n fate = ((until : ℕ) × (k ≡ Copying n until) × (fate ≡ 2)) ⊎ ((k ≡ Loaded n) × (fate ≡ 3))

-- the releases of an instant that belong to the interval that its step g begins
abbrev pub held_at : State → ℕ → ℕ → ℕ
held_at d t set = held_over (at_b d t).state.phase (taken_at d t set)

-- ---- a phase that ends

module _ (t : ℕ) where
  pub copyin_cases : (R : CopyIn → Type 0) (c : CopyIn) → R c
      → ((n until : ℕ) → c ≡ Copying n until → eqb until t ≡ true → R (Loaded n)) → R (copyin_at t c)
  copyin_cases R Unchosen h f = h
  copyin_cases R NoneChosen h f = h
  copyin_cases R (Copying n until) h f = go (eqb until t) refl
    where
      go : (b : Bool) → eqb until t ≡ b → R (cond b (Loaded n) (Copying n until))
      go true e = f n until refl e
      go false e = h
  copyin_cases R (Loaded n) h f = h
  copyin_cases R (Cancelled n fate) h f = h

  pub copyout_cases : (R : CopyOut → Type 0) (o : CopyOut) → R o
      → ((n start until : ℕ) → o ≡ CopyingOut n start until → eqb until t ≡ true → R (CopiedOut n)) → R (copyout_at t o)
  unfolding copyout_at
  copyout_cases R NoCopyOut h f = h
  copyout_cases R (CopyingOut n start until) h f = go (eqb until t) refl
    where
      go : (b : Bool) → eqb until t ≡ b → R (cond b (CopiedOut n) (CopyingOut n start until))
      go true e = f n start until refl e
      go false e = h
  copyout_cases R (CopiedOut n) h f = h

  pub processor_cases : (table : Table) (R : Processor → Type 0) (q : Processor) → R q
      → ((n until : ℕ) → q ≡ CopyingIn n until → eqb until t ≡ true → R (Executing n t (later t (execution_length table.columns n))))
      → ((n start until : ℕ) → q ≡ Executing n start until → eqb until t ≡ true → R (Finished n start))
      → R (processor_at table t q)
  unfolding processor_at
  processor_cases table R Idle h f g = h
  processor_cases table R (CopyingIn n until) h f g = go (eqb until t) refl
    where
      go : (b : Bool) → eqb until t ≡ b → R (cond b (Executing n t (later t (execution_length table.columns n))) (CopyingIn n until))
      go true e = f n until refl e
      go false e = h
  processor_cases table R (Executing n start until) h f g = go (eqb until t) refl
    where
      go : (b : Bool) → eqb until t ≡ b → R (cond b (Finished n start) (Executing n start until))
      go true e = g n start until refl e
      go false e = h
  processor_cases table R (Finished n start) h f g = h

-- ---- the steps

module _ (R : State → Type 0) where
  -- a
  pub a_cases : (d : State) (t : ℕ) → ((next : Next) (outgoing : Outgoing) → d.phase ≡ Between next outgoing → R d)
      → ((i : Interval) → d.phase ≡ Within i → R (with_phase (with_jobs d (without_done d.jobs (completed d.jobs t i.copyout))) (Within (ended d.table t i))))
      → R (step_a d t d.phase).state
  unfolding step_a
  a_cases d t h f = go d.phase refl
    where
      go : (p : Phase) → d.phase ≡ p → R (step_a d t p).state
      go (Between next outgoing) e = h next outgoing e
      go (Within i) e = f i e

  -- b, f
  pub b_cases : (s : Stage) (t : ℕ) → ((i : Interval) → s.state.phase ≡ Within i → over i ≡ false → R s.state)
      → ((next : Next) (outgoing : Outgoing) → s.state.phase ≡ Between next outgoing → R s.state)
      → ((i : Interval) → s.state.phase ≡ Within i → over i ≡ true → R (close s.state i)) → R (step_b s t s.state.phase).state
  unfolding step_b close_stage
  b_cases s t k h f = go s.state.phase refl
    where
      go_within : (i : Interval) (b : Bool) → s.state.phase ≡ Within i → over i ≡ b → R (close_stage s t i b).state
      go_within i true e o = f i e o
      go_within i false e o = k i e o

      go : (p : Phase) → s.state.phase ≡ p → R (step_b s t p).state
      go (Between next outgoing) e = h next outgoing e
      go (Within i) e = go_within i (over i) e refl

  -- d
  pub d_fates : (d : State) (taken : ℕ) → R d
      → ((i : Interval) (n fate : ℕ) → d.phase ≡ Within i → HeldFor i.copyin n fate → outranks d n (highest_of d (intersection taken d.marked)) ≡ true → R (cancel d i n fate true))
      → R (step_d d taken d.phase)
  unfolding step_d cancel_by
  d_fates d taken h f = go d.phase refl
    where
      go_outranks : (i : Interval) (n fate : ℕ) (b : Bool) → d.phase ≡ Within i → HeldFor i.copyin n fate → outranks d n (highest_of d (intersection taken d.marked)) ≡ b → R (cancel d i n fate b)
      go_outranks i n fate true e s b = f i n fate e s b
      go_outranks i n fate false e s b = unfold cancel in h

      go_copyin : (i : Interval) (c : CopyIn) → d.phase ≡ Within i → i.copyin ≡ c → R (cancel_by d taken i c)
      go_copyin i Unchosen e s = h
      go_copyin i NoneChosen e s = h
      go_copyin i (Copying n until) e s = go_outranks i n 2 (outranks d n (highest_of d (intersection taken d.marked))) e (inl (until, s, refl)) refl
      go_copyin i (Loaded n) e s = go_outranks i n 3 (outranks d n (highest_of d (intersection taken d.marked))) e (inr (s, refl)) refl
      go_copyin i (Cancelled n fate) e s = h

      go : (p : Phase) → d.phase ≡ p → R (step_d d taken p)
      go (Between next outgoing) e = h
      go (Within i) e = go_copyin i i.copyin e refl

  -- whatever the fate
  pub d_cases : (d : State) (taken : ℕ) → R d
      → ((i : Interval) (n fate : ℕ) → d.phase ≡ Within i → Held i.copyin n → outranks d n (highest_of d (intersection taken d.marked)) ≡ true → R (cancel d i n fate true))
      → R (step_d d taken d.phase)
  d_cases d taken h f = d_fates d taken h (λ i n fate e s b. f i n fate e (⊎_elim (λ x. inl (x.0, x.1)) (λ x. inr x.0) s) b)

  -- e
  pub e_cases : (d : State) (t : ℕ) → R d
      → ((i : Interval) → d.phase ≡ Within i → i.copyin ≡ Unchosen → copying_out i.copyout ≡ false → R (choose d t i (highest_of d d.jobs.ready)))
      → R (step_e d t d.phase)
  unfolding step_e choose_if
  e_cases d t h f = go d.phase refl
    where
      go_free : (i : Interval) (b : Bool) → d.phase ≡ Within i → i.copyin ≡ Unchosen → copying_out i.copyout ≡ b → R (cond b d (choose d t i (highest_of d d.jobs.ready)))
      go_free i true e s u = h
      go_free i false e s u = f i e s u

      go_copyin : (i : Interval) (c : CopyIn) → d.phase ≡ Within i → i.copyin ≡ c → R (choose_if d t i c)
      go_copyin i Unchosen e s = go_free i (copying_out i.copyout) e s refl
      go_copyin i NoneChosen e s = h
      go_copyin i (Copying n until) e s = h
      go_copyin i (Loaded n) e s = h
      go_copyin i (Cancelled n fate) e s = h

      go : (p : Phase) → d.phase ≡ p → R (step_e d t p)
      go (Between next outgoing) e = h
      go (Within i) e = go_copyin i i.copyin e refl

  -- g
  pub g_cases : (d : State) (t taken : ℕ) → ((i : Interval) → d.phase ≡ Within i → R d)
      → ((next : Next) (outgoing : Outgoing) → d.phase ≡ Between next outgoing → wanted next outgoing d.jobs.ready ≡ false → R d)
      → ((next : Next) (outgoing : Outgoing) → d.phase ≡ Between next outgoing → wanted next outgoing d.jobs.ready ≡ true
      → let b : State = begin d t taken next outgoing in R (step_e b t b.phase))
      → R (step_g d t taken d.phase)
  unfolding step_g
  g_cases d t taken k h f = go d.phase refl
    where
      go_wanted : (next : Next) (outgoing : Outgoing) (w : Bool) → d.phase ≡ Between next outgoing → wanted next outgoing d.jobs.ready ≡ w
          → let b : State = begin d t taken next outgoing in R (cond w (step_e b t b.phase) d)
      go_wanted next outgoing true e w = f next outgoing e w
      go_wanted next outgoing false e w = h next outgoing e w

      go : (p : Phase) → d.phase ≡ p → R (step_g d t taken p)
      go (Within i) e = k i e
      go (Between next outgoing) e = go_wanted next outgoing (wanted next outgoing d.jobs.ready) e refl
