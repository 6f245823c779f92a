-- What the engine copies in, by the history: the job that is highest when the engine becomes free, for as long as its copy-in lasts; step by step and along the
-- calls.
use Rattle.std.proofs.Common.{◌≡◌, ◌&&◌, ◌||◌, ◌∷◌, ◌++◌, ◌⊎◌, ◌+◌, ◌≤◌, ◌<◌}
use Rattle.guarantees.specs.Types.{refl, sym, ap, ◌∙◌, subst, Bool, true, false, cond, not, true≢false, false≢true, List, [], append_assoc, inl, inr, ⊎_elim, ℕ, zero, suc, Table, Jobs, Option, None, Some, Processor, Idle, CopyingIn, Executing, Finished, CopyOut, NoCopyOut, CopyingOut, CopiedOut, CopyIn, Unchosen, NoneChosen, Copying, Loaded, Cancelled, Interval, Next, NoneNext, LoadedNext, PromotedNext, Outgoing, NoneOutgoing, AwaitsCopyOut, Phase, Between, Within, State, Stage, Call}
use mathlib.Core.List.{append-nil}
use native.Mathlib.Omega.{arith}
use borrow.Author.Tests.{eqb-true, eqb-false, ltb-false}
use lib.Dec.{eqb}
use lib.ListN.{get_or}
use Rattle.table.specs.Table.{copyin_length, execution_length}
use Rattle.sets.specs.Sets.{member, union, intersection, insert, remove, bit}
use Rattle.sets.proofs.Laws.{by-test, clash, none, same_task, united, intersection_member, inserted, removed}
use Rattle.rules.specs.With.{at_clock, later}
use Rattle.rules.specs.Order.{highest, highest_of, outranks}
use Rattle.rules.specs.Calls.{opened}
use Rattle.rules.specs.Instant.{resting, processor_at, step_a, without_done, step_b, step_c, step_d, step_e, step_g, cancel, cancel_by, choose, choose_if, close, close_stage, over, settled, copying_out, copyin_at, copyout_at, ended, completed, job_entry, begin, begin_processor, begin_copyout, wanted, processor_task, copyout_task, copyin_task, with_candidates, steps_c_d, steps_c_to_e, at_a, at_b, at_e, at_f, at_g, taken, taken_at, deferred_at, fresh_stage}
use Rattle.guarantees.specs.History.{Event, Comes, Starts, Stops, Finishes, Completes, Ends, Takes, Defers, GivesWay, Begins, history, happens, processor_events, processor_events_in, finish_events, finish_events_in, completion_events, end_events, take_events, defer_events, given_way, giving_events, giving_events_in, begin_events, start_events}
use Rattle.guarantees.specs.Queries.{details, comes, finishes, ends, takes, gives_way, defers, after, at_rest, Origin, origin_by}
use Rattle.guarantees.specs.Pending.{now_by}
use Rattle.guarantees.specs.Copying.{Choice, no_choice, past_b, choice, without_task, ready_by, engine_of, chosen_by, choice_by, has_task, Copies}
use Rattle.guarantees.proofs.Proper.{Fair}
use Rattle.guarantees.proofs.Walk.{walk}
use Rattle.guarantees.proofs.Cases.{is_unchosen, HeldFor, held_at, copyin_cases, d_fates, d_cases, e_cases}
use Rattle.guarantees.proofs.Steps.{Sub, settles}
use Rattle.guarantees.proofs.Frames.{Frame, frame, at_c, b_frame, d_frame, frame_e, frame_g, pending_g, release_b, waiting_b, release_g, waiting_g, table_b, marked_b, c_table, clock_g}
use Rattle.guarantees.proofs.Highest.{Best, best, highest_same}
use Rattle.guarantees.proofs.Releases.{taken_not_pending, passed}
use Rattle.guarantees.proofs.Settled.{Decided, DecidedAt, OpenAt, open_b}
use Rattle.guarantees.proofs.Events.{by_takes, by_defers, by_starts, tail_of, happens_parts, front_parts, tail_parts}
use Rattle.guarantees.proofs.Places.{Parted, copyin_bit, processor_bit, copyout_bit, next_bit, outgoing_bit, stage, rests, no_copyout, a_moves, b_outgoing_bit, b_copyout_bit, g_processor, g_copyout, b_moves, to_b, to_e}
use Rattle.guarantees.proofs.Origins.{OriginIs, taken_origin, deferred_origin, takes_origin, defers_origin, c_origin, opened_origin}
use Rattle.guarantees.proofs.Deferred.{at_task}
use Rattle.guarantees.proofs.Served.{last, Served-at, served_at}
use Rattle.guarantees.proofs.Invariant.{Until, mass, debt, Good, good_opened, good_next, good_quiet}
use Rattle.guarantees.proofs.Times.{Times, copyin_times, times_map}
use Rattle.guarantees.proofs.CopyOuts.{Both, begun_both, Plain, plain}
use Rattle.guarantees.proofs.Courses.{gives_same}
use Rattle.guarantees.proofs.Causes.{c_same, e_same}

abbrev is_copying : CopyIn → Bool
is_copying Unchosen = false
is_copying NoneChosen = false
is_copying (Copying n until) = true
is_copying (Loaded n) = false
is_copying (Cancelled n fate) = false

module _ (pr columns : List ℕ) where
  -- ---- along a history

  -- no interval is open that is over
  abbrev Open : Choice → Type 0
  Open x = x.choosing ≡ false → settled x.engine ≡ true → x.works ≡ true

  -- where an instant is over no interval is open that is over, no copy-in is under way that should have ended, and none has a rival to give way to
  abbrev Rest : Choice → Option ℕ → Type 0
  Rest x w =
      (settled x.engine ≡ true → x.works ≡ true)
      × ((n t u : ℕ) → x.engine ≡ Copying n u → w ≡ Some t → t < u)
      × ((n k : ℕ) → k < 32 → copyin_task x.engine ≡ Some n → member k x.rivals ≡ true → get_or pr n 0 ≤ get_or pr k 0)

  -- and none comes behind its end
  abbrev InTime : Choice → ℕ → Type 0
  InTime x t = (n u : ℕ) → x.engine ≡ Copying n u → t ≤ u

  abbrev So : Choice → Option ℕ → Event → Type 0
  So x w e =
      ((n : ℕ) → finishes e ≡ true → (details e).task ≡ Some n → (u : ℕ) × (x.engine ≡ Copying n u) × (w ≡ Some u))
      × ((n : ℕ) → gives_way e ≡ true → (details e).task ≡ Some n → (copyin_task x.engine ≡ Some n) × ((u : ℕ) → x.engine ≡ Copying n u → w ≡ Some u → ⊥))
      × (ends e ≡ true → settled x.engine ≡ true)
      × (comes e ≡ true → Rest x w × InTime x (details e).tick)
      × ((takes e || defers e) ≡ true → Open x)

  unfoldable pub Chosen : Choice → Option ℕ → List Event → Type 0
  Chosen x w [] = Rest x w
  Chosen x w (e ∷ es) = So x w e × Chosen (choice_by pr columns x e) (now_by w e) es

  so_at : (before rest : List Event) (e : Event) (x : Choice) (w : Option ℕ) → Chosen x w (before ++ (e ∷ rest)) → So (after (choice_by pr columns) x before) (after now_by w before) e
  unfolding Chosen after
  so_at [] rest e x w h = h.0
  so_at (y ∷ before) rest e x w h = so_at before rest e (choice_by pr columns x y) (now_by w y) h.1

  rest_at : (before rest : List Event) (x : Choice) (w : Option ℕ) → at_rest rest ≡ true → Chosen x w (before ++ rest) → Rest (after (choice_by pr columns) x before) (after now_by w before)
  unfolding Chosen after
  rest_at [] [] x w q h = h
  rest_at [] (e ∷ es) x w q h = (h.0.3 q).0
  rest_at (y ∷ before) rest x w q h = rest_at before rest (choice_by pr columns x y) (now_by w y) q h.1

  open_at : (before rest : List Event) (x : Choice) (w : Option ℕ) → past_b (after (choice_by pr columns) x before).choosing rest ≡ true → Chosen x w (before ++ rest)
      → settled (after (choice_by pr columns) x before).engine ≡ true → (after (choice_by pr columns) x before).works ≡ true
  unfolding Chosen after
  open_at [] [] x w q h s = h.0 s
  open_at [] (e ∷ es) x w q h s = ⊎_elim (λ c. (h.0.3 c).0.0 s) (λ c. h.0.4 c.1 c.0 s) (either (comes e) x.choosing (takes e || defers e) q)
    where
      either : (a b c : Bool) → (a || (not b && c)) ≡ true → (a ≡ true) ⊎ ((b ≡ false) × (c ≡ true))
      either true b c q = inl refl
      either false true c q = absurd (false≢true q)
      either false false c q = inr (refl, q)
  open_at (y ∷ before) rest x w q h s = open_at before rest (choice_by pr columns x y) (now_by w y) q h.1 s

  pub copies : (h : List Event) → Chosen no_choice None h → Copies pr columns h
  copies h x = record {
    each_finish = λ before after n e. (at before (Finishes n) after e).0 n refl refl;
    each_giving = λ before after n e. (at before (GivesWay n) after e).1 n refl refl;
    each_rival = λ before after n k e q. (rest_at before after no_choice None q (subst (Chosen no_choice None) e x)).2 n k;
    each_instant = λ before after n t u e. ((at before (Comes t) after e).3 refl).1 n u;
    each_copying = λ before after n t u e q. (rest_at before after no_choice None q (subst (Chosen no_choice None) e x)).1 n t u;
    each_end = λ before after t e. (at before (Ends t) after e).2 refl;
    each_open = λ before after e q. open_at before after no_choice None q (subst (Chosen no_choice None) e x);
  }
    where
      at : (before : List Event) (e : Event) (es : List Event) → h ≡ before ++ (e ∷ es) → So (choice pr columns before) (after now_by None before) e
      at before e es z = so_at before es e no_choice None (subst (Chosen no_choice None) z x)

  not_so {ℓ} : {A : Type ℓ} (b : Bool) → b ≡ false → b ≡ true → A
  not_so b e f = absurd (true≢false (sym f ∙ e))

  release_on : (e : Event) → finishes e ≡ false → gives_way e ≡ false → ends e ≡ false → comes e ≡ false → (x : Choice) (w : Option ℕ) (es : List Event) → ((takes e || defers e) ≡ true → Open x)
      → Chosen (choice_by pr columns x e) (now_by w e) es → Chosen x w (e ∷ es)
  unfolding Chosen
  release_on e a b c d x w es o h = (((λ n y z. not_so (finishes e) a y), (λ n y z. not_so (gives_way e) b y), (λ y. not_so (ends e) c y), (λ y. not_so (comes e) d y), o), h)

  on : (e : Event) → finishes e ≡ false → gives_way e ≡ false → ends e ≡ false → comes e ≡ false → (takes e || defers e) ≡ false → (x : Choice) (w : Option ℕ) (es : List Event) → Chosen (choice_by pr columns x e) (now_by w e) es → Chosen x w (e ∷ es)
  on e a b c d f x w es h = release_on e a b c d x w es (λ y. not_so (takes e || defers e) f y) h

  -- ---- what agrees with the state

  abbrev spots : ℕ → Phase → ℕ
  spots k (Between next outgoing) = outgoing_bit k outgoing
  spots k (Within i) = processor_bit k i.processor + copyout_bit k i.copyout

  -- a pending job is to be executed, or on the processor or being copied out
  abbrev Readies : Choice → ℕ → Phase → Type 0
  Readies x pending p = (k : ℕ) → k < 32 → bit (member k x.ready) + spots k p ≡ bit (member k pending)

  -- what the engine copies in
  abbrev Run : Choice → CopyOut → CopyIn → Type 0
  Run x o Unchosen = x.engine ≡ Unchosen
  Run x o NoneChosen = (copying_out o ≡ false) × (x.engine ≡ NoneChosen)
  Run x o (Copying n until) = (copying_out o ≡ false) × ((c : ℕ) × (x.engine ≡ Copying n (c + copyin_length columns n)) × (until ≡ later c (copyin_length columns n)))
  Run x o (Loaded n) = (copying_out o ≡ false) × (x.engine ≡ Loaded n)
  Run x o (Cancelled n fate) = (copying_out o ≡ false) × (x.engine ≡ NoneChosen)

  -- none of the marked jobs taken since the choice has a higher priority than the one that the engine copies in, but for those of a set
  abbrev Leads : Choice → ℕ → ℕ → Type 0
  Leads x s n = (k : ℕ) → k < 32 → member k x.rivals ≡ true → (member k s ≡ true) ⊎ (get_or pr n 0 ≤ get_or pr k 0)

  abbrev Ahead : Choice → ℕ → CopyIn → Type 0
  Ahead x s Unchosen = Unit {0}
  Ahead x s NoneChosen = Unit {0}
  Ahead x s (Copying n until) = Leads x s n
  Ahead x s (Loaded n) = Leads x s n
  Ahead x s (Cancelled n fate) = Unit {0}

  abbrev Runs : Choice → Phase → Type 0
  Runs x (Between next outgoing) = x.engine ≡ Unchosen
  Runs x (Within i) = Run x i.copyout i.copyin × Ahead x 0 i.copyin

  run_as : (x y : Choice) (o : CopyOut) (c : CopyIn) → y.engine ≡ x.engine → Run x o c → Run y o c
  run_as x y o Unchosen e r = e ∙ r
  run_as x y o NoneChosen e r = (r.0, e ∙ r.1)
  run_as x y o (Copying n until) e r = (r.0, (r.1.0, e ∙ r.1.1, r.1.2))
  run_as x y o (Loaded n) e r = (r.0, e ∙ r.1)
  run_as x y o (Cancelled n fate) e r = (r.0, e ∙ r.1)

  ahead_as : (x y : Choice) (s : ℕ) (c : CopyIn) → y.rivals ≡ x.rivals → Ahead x s c → Ahead y s c
  ahead_as x y s Unchosen e a = a
  ahead_as x y s NoneChosen e a = a
  ahead_as x y s (Copying n until) e a = λ k l m. a k l (subst (λ (r : ℕ). member k r ≡ true) e m)
  ahead_as x y s (Loaded n) e a = λ k l m. a k l (subst (λ (r : ℕ). member k r ≡ true) e m)
  ahead_as x y s (Cancelled n fate) e a = a

  runs_as : (x y : Choice) (p : Phase) → y.engine ≡ x.engine → y.rivals ≡ x.rivals → Runs x p → Runs y p
  runs_as x y (Between next outgoing) e f r = e ∙ r
  runs_as x y (Within i) e f r = (run_as x y i.copyout i.copyin e r.0, ahead_as x y 0 i.copyin f r.1)

  -- whether the processor is through with its job
  abbrev rest_of : Phase → Bool
  rest_of (Between next outgoing) = true
  rest_of (Within i) = resting i.processor

  abbrev Working : Choice → Phase → Type 0
  Working x p = x.works ≡ not (rest_of p)

  -- the same jobs
  record Like (x y : Choice) : Type 0 where
    ready : y.ready ≡ x.ready
    origins : (k : ℕ) → y.origins k ≡ x.origins k
    works : y.works ≡ x.works

  like : (x : Choice) → Like x x
  like x = record { ready = refl; origins = λ k. refl; works = refl }

  -- but for whether the processor works, all is the same
  record Still (x y : Choice) : Type 0 where
    ready : y.ready ≡ x.ready
    origins : (k : ℕ) → y.origins k ≡ x.origins k
    choosing : y.choosing ≡ x.choosing
    engine : y.engine ≡ x.engine
    rivals : y.rivals ≡ x.rivals

  still : (x : Choice) → Still x x
  still x = record { ready = refl; origins = λ k. refl; choosing = refl; engine = refl; rivals = refl }

  exact : (c l : ℕ) → later c l ≤ 3000000000 → later c l ≡ c + l
  exact c l h = omega arith

  -- between the instants
  record Agrees (x : Choice) (d : State) : Type 0 where
    readies : Readies x d.jobs.pending d.phase
    origins : (k : ℕ) → k < 32 → OriginIs k (x.origins k) d.jobs.release d.waiting
    runs : Runs x d.phase
    working : Working x d.phase

  no-job {ℓ} : {A : Type ℓ} (n : ℕ) → None ≡ Some n → A
  no-job n e = absurd (let z : ◌≡◌ {A = ℕ} 0 1 = cc in omega arith)

  -- the end of a copy-in under way is one of the state's times
  under_way : (Q : ℕ → Type 0) (x : Choice) (p : Phase) → Times Plain p → Times Q p → Runs x p → (n u : ℕ) → x.engine ≡ Copying n u → Q u
  under_way Q x (Between next outgoing) a b r n u e = absurd (let y : Unchosen ≡ Copying n u = sym r ∙ e in let z : ◌≡◌ {A = ℕ} 0 1 = cc in omega arith)
  under_way Q x (Within i) a b r n u e = go i.copyin a.2 b.2 r.0
    where
      other : (k : CopyIn) → is_copying k ≡ false → x.engine ≡ k → Q u
      other k f g = absurd (false≢true (sym f ∙ ap is_copying (sym g ∙ e)))

      go : (k : CopyIn) → copyin_times Plain k → copyin_times Q k → Run x i.copyout k → Q u
      go Unchosen a b r = other Unchosen refl r
      go NoneChosen a b r = other NoneChosen refl r.1
      go (Copying m until) a b r =
          let z : Copying m (r.1.0 + copyin_length columns m) ≡ Copying n u = sym r.1.1 ∙ e in
          let l : r.1.0 + copyin_length columns m ≡ u = cc in
          subst Q (r.1.2 ∙ exact r.1.0 (copyin_length columns m) (subst (λ (y : ℕ). y ≤ 3000000000) r.1.2 a) ∙ l) b
      go (Loaded m) a b r = other (Loaded m) refl r.1
      go (Cancelled m fate) a b r = other NoneChosen refl r.1

  -- behind step b, and where an instant is over
  open_so : (a b c : Bool) → b ≡ false → c ≡ true → (a && (not b && c)) ≡ false → a ≡ false
  open_so true b c f g h = rw (f, g) at h
  open_so false b c f g h = refl

  not_over : (x : Choice) (p : Phase) → Runs x p → Working x p → OpenAt p → settled x.engine ≡ true → x.works ≡ true
  not_over x (Between next outgoing) r v o s = clash (settled x.engine) s (ap settled r)
  not_over x (Within i) r v o s = v ∙ ap not (unrested i.copyin r.0 o)
    where
      unrested : (k : CopyIn) → Run x i.copyout k → (resting i.processor && (not (copying_out i.copyout) && settled k)) ≡ false → resting i.processor ≡ false
      unrested Unchosen r o = clash (settled x.engine) s (ap settled r)
      unrested NoneChosen r o = open_so (resting i.processor) (copying_out i.copyout) true r.0 refl o
      unrested (Copying n until) r o = clash (settled x.engine) s (ap settled r.1.1)
      unrested (Loaded n) r o = open_so (resting i.processor) (copying_out i.copyout) true r.0 refl o
      unrested (Cancelled n fate) r o = open_so (resting i.processor) (copying_out i.copyout) true r.0 refl o

  -- what holds where an instant is over
  module _ (x : Choice) (w : Option ℕ) (now : ℕ) (at : (t : ℕ) → w ≡ Some t → t ≡ now) where
    no_rival : (p : Phase) → Runs x p → (n k : ℕ) → k < 32 → copyin_task x.engine ≡ Some n → member k x.rivals ≡ true → get_or pr n 0 ≤ get_or pr k 0
    no_rival (Between next outgoing) r n k l p m = no-job n (sym (ap copyin_task r) ∙ p)
    no_rival (Within i) r n k l p m = go i.copyin r.0 r.1
      where
        leads : (j : ℕ) → copyin_task x.engine ≡ Some j → Leads x 0 j → get_or pr n 0 ≤ get_or pr k 0
        leads j q a =
            let same : j ≡ n = let z : Some j ≡ Some n = sym q ∙ p in cc in
            subst (λ (i : ℕ). get_or pr i 0 ≤ get_or pr k 0) same (⊎_elim (λ z. clash (member k 0) z (none k)) (λ z. z) (a k l m))

        go : (c : CopyIn) → Run x i.copyout c → Ahead x 0 c → get_or pr n 0 ≤ get_or pr k 0
        go Unchosen r a = no-job n (sym (ap copyin_task r) ∙ p)
        go NoneChosen r a = no-job n (sym (ap copyin_task r.1) ∙ p)
        go (Copying j until) r a = leads j (ap copyin_task r.1.1) a
        go (Loaded j) r a = leads j (ap copyin_task r.1) a
        go (Cancelled j fate) r a = no-job n (sym (ap copyin_task r.1) ∙ p)

    rested : (p : Phase) → Times Plain p → Times (λ u. now < u) p → Runs x p → Working x p → OpenAt p → Rest x w
    rested p a b r v o = (not_over x p r v o, (λ n t u e z. subst (λ (j : ℕ). j < u) (sym (at t z)) (under_way (λ u. now < u) x p a b r n u e)), no_rival p r)

  module _ (t : ℕ) where
    abbrev T : Choice → List Event → Type 0
    T x es = Chosen x (Some t) es

    -- it copies the job in from now on that is highest by what was taken so far
    abbrev from_now : Option ℕ → CopyIn
    from_now = engine_of (λ n. Copying n (t + copyin_length columns n))

    abbrev Picks : Choice → Type 0
    Picks x = x.engine ≡ from_now (highest pr (λ n. (x.origins n).since) x.ready)

    -- the engine is free since this instant and the choice is still to come, or it has not become free at it
    abbrev FreeNow : Choice → Phase → Type 0
    FreeNow x (Between next outgoing) = ⊥
    FreeNow x (Within i) = (i.copyin ≡ Unchosen) × (copying_out i.copyout ≡ false) × Picks x × (x.rivals ≡ 0)

    -- a copy-in under way does not end now
    abbrev Unended : CopyIn → Type 0
    Unended Unchosen = Unit {0}
    Unended NoneChosen = Unit {0}
    Unended (Copying n until) = (eqb until t ≡ false) × (until ≤ 3000000000)
    Unended (Loaded n) = Unit {0}
    Unended (Cancelled n fate) = Unit {0}

    abbrev UnendedAt : Phase → Type 0
    UnendedAt (Between next outgoing) = Unit {0}
    UnendedAt (Within i) = Unended i.copyin

    abbrev Mode : Choice → Phase → Type 0
    Mode x p = ((x.choosing ≡ true) × FreeNow x p) ⊎ ((x.choosing ≡ false) × Runs x p × DecidedAt p × UnendedAt p)

    -- ---- a

    finish_chosen : (x : Choice) (o : CopyOut) (c : CopyIn) (ys : List Event) → Run x o c → Ahead x 0 c → Decided c o → copyin_times Plain c
        → ((y : Choice) → Like x y → y.choosing ≡ x.choosing → Run y o (copyin_at t c) → Ahead y 0 (copyin_at t c) → Decided (copyin_at t c) o → Unended (copyin_at t c) → T y ys) → T x (finish_events t c ++ ys)
    unfolding finish_events
    finish_chosen x o Unchosen ys r a u p k = k x (like x) refl r a u tt
    finish_chosen x o NoneChosen ys r a u p k = k x (like x) refl r a u tt
    finish_chosen x o (Loaded n) ys r a u p k = k x (like x) refl r a u tt
    finish_chosen x o (Cancelled n fate) ys r a u p k = k x (like x) refl r a u tt
    finish_chosen x o (Copying n until) ys r a u p k = go (eqb until t) refl k
      where
        at_its_end : eqb until t ≡ true → (m : ℕ) → Some n ≡ Some m → (u : ℕ) × (x.engine ≡ Copying m u) × (Some t ≡ Some u)
        at_its_end e m z =
            let c : ℕ = r.1.0 in
            let l : later c (copyin_length columns n) ≡ c + copyin_length columns n = exact c (copyin_length columns n) (subst (λ (y : ℕ). y ≤ 3000000000) r.1.2 p) in
            let same : n ≡ m = cc in
            (c + copyin_length columns n, r.1.1 ∙ ap (λ (j : ℕ). Copying j (c + copyin_length columns n)) same, ap Some (sym (eqb-true until t e) ∙ r.1.2 ∙ l))

        go : (b : Bool) → eqb until t ≡ b
            → ((y : Choice) → Like x y → y.choosing ≡ x.choosing → Run y o (cond b (Loaded n) (Copying n until)) → Ahead y 0 (cond b (Loaded n) (Copying n until)) → Decided (cond b (Loaded n) (Copying n until)) o → Unended (cond b (Loaded n) (Copying n until)) → T y ys)
            → T x (cond b (Finishes n ∷ []) [] ++ ys)
        go true e k =
            unfold Chosen in (
              ((λ m y z. at_its_end e m z), (λ n y. absurd (false≢true y)), (λ y. absurd (false≢true y)), (λ y. absurd (false≢true y)), (λ y. absurd (false≢true y))),
              k (choice_by pr columns x (Finishes n)) (record { ready = refl; origins = λ j. refl; works = refl }) refl (r.0, refl) a tt tt,
            )
        go false e k = k x (like x) refl r a tt (e, p)

    -- while the engine copies out nobody is chosen
    unchosen : (x : Choice) (o : CopyOut) (c : CopyIn) → Run x o c → copying_out o ≡ true → c ≡ Unchosen
    unchosen x o Unchosen r e = refl
    unchosen x o NoneChosen r e = clash (copying_out o) e r.0
    unchosen x o (Copying n until) r e = clash (copying_out o) e r.0
    unchosen x o (Loaded n) r e = clash (copying_out o) e r.0
    unchosen x o (Cancelled n fate) r e = clash (copying_out o) e r.0

    completion_chosen : (x : Choice) (j : Jobs) (o : CopyOut) (c : CopyIn) (i : Interval) (ys : List Event) → i.copyin ≡ c → i.copyout ≡ copyout_at t o → x.choosing ≡ false → Run x o c → Ahead x 0 c → Decided c o → Unended c
        → ((y : Choice) → Like x y → Mode y (Within i) → T y ys) → T x (completion_events (completed j t o) ++ ys)
    unfolding completion_events completed copyout_at
    completion_chosen x j NoCopyOut c i ys a b e r w u v k = k x (like x) (inr (e, (rw (a, b) r, rw a w), rw (a, b) u, rw a v))
    completion_chosen x j (CopiedOut n) c i ys a b e r w u v k = k x (like x) (inr (e, (rw (a, b) r, rw a w), rw (a, b) u, rw a v))
    completion_chosen x j (CopyingOut n start until) c i ys a b e r w u v k = go (eqb until t) b
      where
        go : (z : Bool) → i.copyout ≡ cond z (CopiedOut n) (CopyingOut n start until) → T x (completion_events (cond z (Some (job_entry j n start t)) None) ++ ys)
        go true b =
            on (Completes n t) refl refl refl refl refl x (Some t) ys
            (k (choice_by pr columns x (Completes n t)) (record { ready = refl; origins = λ j. refl; works = refl }) (inl (refl, (a ∙ unchosen x (CopyingOut n start until) c r refl, ap copying_out b, refl, refl))))
        go false b = k x (like x) (inr (e, (rw (a, b) r, rw a w), rw (a, b) u, rw a v))

    module _ (present : ℕ) (tasks : present < 4294967296) where
      likewise : (x y z : Choice) → Like x y → Like y z → Like x z
      likewise x y z a b = record { ready = b.ready ∙ a.ready; origins = λ k. b.origins k ∙ a.origins k; works = b.works ∙ a.works }

      copyin_same : (k : ℕ) (c : CopyIn) → copyin_bit k (copyin_at t c) ≡ copyin_bit k c
      copyin_same k c = copyin_cases t (λ y. copyin_bit k y ≡ copyin_bit k c) c refl (λ n u e x. ap (copyin_bit k) (sym e))

      a_left : (d : State) (i : Interval) (x : Choice) → d.phase ≡ Within i → Parted present tasks d (Within i) → Readies x d.jobs.pending (Within i)
          → Readies x (step_a d t (Within i)).state.jobs.pending (step_a d t (Within i)).state.phase
      a_left d i x e h readies j l = go ((a_moves present tasks d t (Within i) e h).parted.parts j l)
        where
          go : let s : State = (step_a d t (Within i)).state in bit (member j s.jobs.pending) ≡ bit (member j s.jobs.ready) + stage j s.phase
              → bit (member j x.ready) + spots j s.phase ≡ bit (member j s.jobs.pending)
          go = unfold step_a ended without_done in λ z. omega (arith, readies j l, h.parts j l, copyin_same j i.copyin)

      a_phase : (d : State) (p : Phase) (x : Choice) (ys : List Event) → d.phase ≡ p → Parted present tasks d p → Times Plain p → Readies x d.jobs.pending p → Runs x p → DecidedAt p → x.choosing ≡ false
          → ((y : Choice) → Like x y → Readies y (step_a d t p).state.jobs.pending (step_a d t p).state.phase → Mode y (step_a d t p).state.phase → T y ys)
          → T x (finish_events_in t p ++ (completion_events (step_a d t p).done ++ ys))
      unfolding finish_events_in step_a completion_events
      a_phase d (Between next outgoing) x ys e h times readies runs decided c k =
          k x (like x) (subst (Readies x d.jobs.pending) (sym e) readies) (inr (c, subst (Runs x) (sym e) runs, subst DecidedAt (sym e) tt, subst UnendedAt (sym e) tt))
      a_phase d (Within i) x ys e h times readies runs decided c k =
          finish_chosen x i.copyout i.copyin (completion_events (completed d.jobs t i.copyout) ++ ys) runs.0 runs.1 decided times.2
          (λ y a z r q u v. completion_chosen y d.jobs i.copyout (copyin_at t i.copyin) (ended d.table t i) ys (unfold ended in refl) (unfold ended in refl) (z ∙ c) r q u v
          (λ w b m. k w (likewise x y w a b) (λ j l. ap (λ (r : ℕ). bit (member j r) + spots j (Within (ended d.table t i))) (b.ready ∙ a.ready) ∙ a_left d i x e h readies j l) m))

      processor_chosen : (table : Table) (x : Choice) (q : Processor) (ys : List Event) → x.works ≡ not (resting q)
          → ((y : Choice) → Still x y → y.works ≡ not (resting (processor_at table t q)) → T y ys) → T x (processor_events t q ++ ys)
      unfolding processor_events processor_at
      processor_chosen table x Idle ys v k = k x (still x) v
      processor_chosen table x (Finished n start) ys v k = k x (still x) v
      processor_chosen table x (CopyingIn n until) ys v k = go (eqb until t) k
        where
          go : (b : Bool) → ((y : Choice) → Still x y → y.works ≡ not (resting (cond b (Executing n t (later t (execution_length table.columns n))) (CopyingIn n until))) → T y ys) → T x (cond b (Starts n t ∷ []) [] ++ ys)
          go true k = on (Starts n t) refl refl refl refl refl x (Some t) ys (k x (still x) v)
          go false k = k x (still x) v
      processor_chosen table x (Executing n start until) ys v k = go (eqb until t) k
        where
          go : (b : Bool) → ((y : Choice) → Still x y → y.works ≡ not (resting (cond b (Finished n start) (Executing n start until))) → T y ys) → T x (cond b (Stops n t ∷ []) [] ++ ys)
          go true k =
              on (Stops n t) refl refl refl refl refl x (Some t) ys
              (k (choice_by pr columns x (Stops n t)) (record { ready = refl; origins = λ j. refl; choosing = refl; engine = refl; rivals = refl }) refl)
          go false k = k x (still x) v

      a_chosen : (d : State) (p : Phase) (x : Choice) (ys : List Event) → d.phase ≡ p → Parted present tasks d p → Times Plain p → Readies x d.jobs.pending p → Runs x p → DecidedAt p → x.choosing ≡ false → Working x p
          → ((y : Choice) → ((k : ℕ) → y.origins k ≡ x.origins k) → Readies y (step_a d t p).state.jobs.pending (step_a d t p).state.phase → Mode y (step_a d t p).state.phase → Working y (step_a d t p).state.phase → T y ys)
          → T x (processor_events_in t p ++ (finish_events_in t p ++ (completion_events (step_a d t p).done ++ ys)))
      unfolding processor_events_in
      a_chosen d (Between next outgoing) x ys e h times readies runs decided c v k =
          a_phase d (Between next outgoing) x ys e h times readies runs decided c (λ y l r m. k y l.origins r m (l.works ∙ v ∙ unfold step_a in ap (λ (q : Phase). not (rest_of q)) (sym e)))
      a_chosen d (Within i) x ys e h times readies runs decided c v k =
          processor_chosen d.table x i.processor _ v
          (λ y a w. a_phase d (Within i) y ys e h times (λ j l. ap (λ (r : ℕ). bit (member j r) + spots j (Within i)) a.ready ∙ readies j l) (runs_as x y (Within i) a.engine a.rivals runs) decided (a.choosing ∙ c)
          (λ z l r m. k z (λ j. l.origins j ∙ a.origins j) r m (l.works ∙ w ∙ unfold step_a ended in refl)))

      -- ---- b

      run_settled : (x : Choice) (o : CopyOut) (c : CopyIn) → settled c ≡ true → Run x o c → settled x.engine ≡ true
      run_settled x o Unchosen s r = absurd (false≢true s)
      run_settled x o NoneChosen s r = ap settled r.1
      run_settled x o (Copying n until) s r = absurd (false≢true s)
      run_settled x o (Loaded n) s r = ap settled r.1
      run_settled x o (Cancelled n fate) s r = ap settled r.1

      ended_settled : (x : Choice) (i : Interval) → over i ≡ true → Mode x (Within i) → (settled x.engine ≡ true) × (x.choosing ≡ false)
      ended_settled x i o m =
          ⊎_elim (λ z. clash (settled i.copyin) (settles i o) (ap settled z.1.0)) (λ z. (run_settled x i.copyout i.copyin (settles i o) z.1.0, z.0)) m

      b_chosen : (x : Choice) (pending : ℕ) (s : Stage) (p : Phase) (ys : List Event) → s.state.phase ≡ p → Readies x pending p → Mode x p → Working x p
          → ((y : Choice) → ((k : ℕ) → y.origins k ≡ x.origins k) → Readies y pending (step_b s t p).state.phase → Mode y (step_b s t p).state.phase → Working y (step_b s t p).state.phase → T y ys)
          → T x (end_events t p (step_b s t p).state.phase ++ ys)
      unfolding step_b close_stage close end_events
      b_chosen x pending s (Between next outgoing) ys e h m v k = k x (λ j. refl) (subst (Readies x pending) (sym e) h) (subst (Mode x) (sym e) m) (subst (Working x) (sym e) v)
      b_chosen x pending s (Within i) ys e h m v k = go (over i) refl k
        where
          stays : (q : Phase) → q ≡ Within i → ((y : Choice) → ((k : ℕ) → y.origins k ≡ x.origins k) → Readies y pending q → Mode y q → Working y q → T y ys) → T x (end_events t (Within i) q ++ ys)
          stays q z k = rw z (k x (λ j. refl) (subst (Readies x pending) (sym z) h) (subst (Mode x) (sym z) m) (subst (Working x) (sym z) v))

          go : (b : Bool) → over i ≡ b
              → ((y : Choice) → ((k : ℕ) → y.origins k ≡ x.origins k) → Readies y pending (close_stage s t i b).state.phase → Mode y (close_stage s t i b).state.phase → Working y (close_stage s t i b).state.phase → T y ys)
              → T x (end_events t (Within i) (close_stage s t i b).state.phase ++ ys)
          go true o k =
              unfold Chosen in (
                ((λ n y z. absurd (false≢true y)), (λ n y. absurd (false≢true y)), (λ y. (ended_settled x i o m).0), (λ y. absurd (false≢true y)), (λ y. absurd (false≢true y))),
                k (choice_by pr columns x (Ends t)) (λ j. refl) (λ j l. omega (arith, h j l, b_outgoing_bit present tasks j i.processor (rests i o), b_copyout_bit present tasks j i.copyout (no_copyout i o)))
                    (inr ((ended_settled x i o m).1, refl, tt, tt)) (v ∙ ap not (rests i o)),
              )
          go false o k = stays s.state.phase e k

      -- ---- c

      -- what each event changes, along two lists
      walked : {S : Type 0} (change : S → Event → S) (xs ys : List Event) (s : S) → after change s (xs ++ ys) ≡ after change (after change s xs) ys
      unfolding after
      walked change [] ys s = refl
      walked change (e ∷ xs) ys s = walked change xs ys (change s e)

      readies_of : (es : List Event) (x : Choice) → (after (choice_by pr columns) x es).ready ≡ after ready_by x.ready es
      unfolding after
      readies_of [] x = refl
      readies_of (e ∷ es) x = readies_of es (choice_by pr columns x e)

      origins_of : (es : List Event) (x : Choice) (k : ℕ) → (after (choice_by pr columns) x es).origins k ≡ after (origin_by k) (x.origins k) es
      unfolding after
      origins_of [] x k = refl
      origins_of (e ∷ es) x k = origins_of es (choice_by pr columns x e) k

      -- what the takings leave of the choice
      record Keeps (x y : Choice) : Type 0 where
        choosing : y.choosing ≡ x.choosing
        works : y.works ≡ x.works
        picks : x.choosing ≡ true → Picks x → Picks y
        keeps : x.choosing ≡ false → y.engine ≡ x.engine

      kept_open : (x y : Choice) → Keeps x y → Open x → Open y
      kept_open x y k o c s = let e : x.choosing ≡ false = sym k.choosing ∙ c in k.works ∙ o e (sym (ap settled (k.keeps e)) ∙ s)

      -- and which rivals they add
      record Grows (taken w : ℕ) (x y : Choice) : Type 0 where
        new : (k : ℕ) → k < 32 → member k y.rivals ≡ true → (member k x.rivals ≡ true) ⊎ ((member k taken ≡ true) × (member k w ≡ true))
        none_new : x.choosing ≡ true → y.rivals ≡ x.rivals

      module _ (taken w : ℕ) where
        abbrev Kept : List Event → Type 0
        Kept es = (x : Choice) → Keeps x (after (choice_by pr columns) x es)

        takes_keep : (k : ℕ) (x : Choice) → Keeps x (after (choice_by pr columns) x (take_events k taken w t))
        takes_keep k x =
            subst Kept (append-nil (take_events k taken w t))
            (by_takes Kept k taken w t (λ n l m es h x. one n es x (h (choice_by pr columns x (Takes n t (member n w))))) [] (λ x. unfold after in record { choosing = refl; works = refl; picks = λ e p. p; keeps = λ e. refl })) x
          where
            one : (n : ℕ) (es : List Event) (x : Choice) → Keeps (choice_by pr columns x (Takes n t (member n w))) (after (choice_by pr columns) (choice_by pr columns x (Takes n t (member n w))) es) → Keeps x (after (choice_by pr columns) x (Takes n t (member n w) ∷ es))
            one n es x h = unfold after in record {
              choosing = h.choosing;
              works = h.works;
              picks = λ e p. h.picks e (ap (λ (b : Bool). cond b (chosen_by pr columns x (Takes n t (member n w))) x.engine) e);
              keeps = λ e. h.keeps e ∙ ap (λ (b : Bool). cond b (chosen_by pr columns x (Takes n t (member n w))) x.engine) e;
            }

        takes_run : (k : ℕ) (x : Choice) (ys : List Event) → Open x → T (after (choice_by pr columns) x (take_events k taken w t)) ys → T x (take_events k taken w t ++ ys)
        unfolding take_events after
        takes_run zero x ys o h = h
        takes_run (suc k) x ys o h =
            rw (append_assoc (take_events k taken w t) (cond (member k taken) (Takes k t (member k w) ∷ []) []) ys)
            (takes_run k x (cond (member k taken) (Takes k t (member k w) ∷ []) [] ++ ys) o
            (go (member k taken) (subst (λ (y : Choice). T y ys) (walked (choice_by pr columns) (take_events k taken w t) (cond (member k taken) (Takes k t (member k w) ∷ []) []) x) h)))
          where
            go : (b : Bool) → T (after (choice_by pr columns) (after (choice_by pr columns) x (take_events k taken w t)) (cond b (Takes k t (member k w) ∷ []) [])) ys
                → T (after (choice_by pr columns) x (take_events k taken w t)) (cond b (Takes k t (member k w) ∷ []) [] ++ ys)
            go true h = release_on (Takes k t (member k w)) refl refl refl refl (after (choice_by pr columns) x (take_events k taken w t)) (Some t) ys (λ y. kept_open x _ (takes_keep k x) o) h
            go false h = h

        abbrev Grown : List Event → Type 0
        Grown es = (x : Choice) → Grows taken w x (after (choice_by pr columns) x es)

        takes_grow : (x : Choice) → Grows taken w x (after (choice_by pr columns) x (take_events 32 taken w t))
        takes_grow x =
            subst Grown (append-nil (take_events 32 taken w t))
            (by_takes Grown 32 taken w t (λ n l m es h x. one n m es x (h (choice_by pr columns x (Takes n t (member n w))))) [] (λ x. unfold after in record { new = λ k l m. inl m; none_new = λ e. refl })) x
          where
            one : (n : ℕ) → member n taken ≡ true → (es : List Event) (x : Choice) → Grows taken w (choice_by pr columns x (Takes n t (member n w))) (after (choice_by pr columns) (choice_by pr columns x (Takes n t (member n w))) es)
                → Grows taken w x (after (choice_by pr columns) x (Takes n t (member n w) ∷ es))
            one n m es x h = unfold after in record {
              new = λ k l z. ⊎_elim (λ r. add k l x.choosing (member n w) refl r) inr (h.new k l z);
              none_new = λ e. h.none_new e ∙ ap (λ (b : Bool). cond (not b && member n w) (insert n x.rivals) x.rivals) e;
            }
              where
                add : (k : ℕ) → k < 32 → (c b : Bool) → member n w ≡ b → member k (cond (not c && b) (insert n x.rivals) x.rivals) ≡ true → (member k x.rivals ≡ true) ⊎ ((member k taken ≡ true) × (member k w ≡ true))
                add k l true b e r = inl r
                add k l false false e r = inl r
                add k l false true e r = which (eqb k n) refl (sym (inserted n x.rivals k l) ∙ r)
                  where
                    which : (b : Bool) → eqb k n ≡ b → (b || member k x.rivals) ≡ true → (member k x.rivals ≡ true) ⊎ ((member k taken ≡ true) × (member k w ≡ true))
                    which true q r = let same : n ≡ k = sym (eqb-true k n q) in inr (subst (λ (j : ℕ). member j taken ≡ true) same m, subst (λ (j : ℕ). member j w ≡ true) same e)
                    which false q r = inl r

        takes_ready : (j s : ℕ) → j < 32 → member j (after ready_by s (take_events 32 taken w t)) ≡ (member j s || member j taken)
        takes_ready j s l =
            ap (λ (es : List Event). member j (after ready_by s es)) (sym (append-nil (take_events 32 taken w t)))
            ∙ at_task j taken (λ k. Takes k t (member k w)) (λ k. take_events k taken w t) (unfold take_events in refl) (λ k. unfold take_events in refl) P
            (λ b k e es h r z. unfold after in h (insert k r) (inserted k r j l ∙ ap (λ (c : Bool). c || member j r) e ∙ z)) (member j s) true
            (λ m es h r z. unfold after in h (insert j r) (inserted j r j l ∙ ap (λ (c : Bool). c || member j r) (same_task j))) 32 l [] (λ r z. unfold after in z) s refl
            ∙ either (member j taken) (member j s)
          where
            P : Bool → List Event → Type 0
            P b es = (r : ℕ) → member j r ≡ b → member j (after ready_by r es) ≡ cond (member j taken) true (member j s)

            either : (a b : Bool) → cond a true b ≡ (b || a)
            either true true = refl
            either true false = refl
            either false true = refl
            either false false = refl

      -- and the releases that are set waiting
      record Same (x y : Choice) : Type 0 where
        ready : y.ready ≡ x.ready
        choosing : y.choosing ≡ x.choosing
        engine : y.engine ≡ x.engine
        rivals : y.rivals ≡ x.rivals
        works : y.works ≡ x.works

      same_open : (x y : Choice) → Same x y → Open x → Open y
      same_open x y k o c s = k.works ∙ o (sym k.choosing ∙ c) (sym (ap settled k.engine) ∙ s)

      module _ (deferred : ℕ) where
        abbrev Left : List Event → Type 0
        Left es = (x : Choice) → Same x (after (choice_by pr columns) x es)

        defers_same : (k : ℕ) (x : Choice) → Same x (after (choice_by pr columns) x (defer_events k deferred t))
        defers_same k x =
            subst Left (append-nil (defer_events k deferred t))
            (by_defers Left k deferred t (λ n l m es h x. one n es x (h (choice_by pr columns x (Defers n t)))) [] (λ x. unfold after in record { ready = refl; choosing = refl; engine = refl; rivals = refl; works = refl })) x
          where
            one : (n : ℕ) (es : List Event) (x : Choice) → Same (choice_by pr columns x (Defers n t)) (after (choice_by pr columns) (choice_by pr columns x (Defers n t)) es) → Same x (after (choice_by pr columns) x (Defers n t ∷ es))
            one n es x h = unfold after in record { ready = h.ready; choosing = h.choosing; engine = h.engine; rivals = h.rivals; works = h.works }

        defers_run : (k : ℕ) (x : Choice) (ys : List Event) → Open x → T (after (choice_by pr columns) x (defer_events k deferred t)) ys → T x (defer_events k deferred t ++ ys)
        unfolding defer_events after
        defers_run zero x ys o h = h
        defers_run (suc k) x ys o h =
            rw (append_assoc (defer_events k deferred t) (cond (member k deferred) (Defers k t ∷ []) []) ys)
            (defers_run k x (cond (member k deferred) (Defers k t ∷ []) [] ++ ys) o
            (go (member k deferred) (subst (λ (y : Choice). T y ys) (walked (choice_by pr columns) (defer_events k deferred t) (cond (member k deferred) (Defers k t ∷ []) []) x) h)))
          where
            go : (b : Bool) → T (after (choice_by pr columns) (after (choice_by pr columns) x (defer_events k deferred t)) (cond b (Defers k t ∷ []) [])) ys
                → T (after (choice_by pr columns) x (defer_events k deferred t)) (cond b (Defers k t ∷ []) [] ++ ys)
            go true h = release_on (Defers k t) refl refl refl refl (after (choice_by pr columns) x (defer_events k deferred t)) (Some t) ys (λ y. same_open x _ (defers_same k x) o) h
            go false h = h

      -- ---- d, e

      -- from a state c behind its releases: the choice is the state's, or none is made
      abbrev Ready : Choice → State → ℕ → Phase → Type 0
      Ready x c s (Between next outgoing) = x.engine ≡ Unchosen
      Ready x c s (Within i) =
          ((i.copyin ≡ Unchosen) × (copying_out i.copyout ≡ false) × (x.engine ≡ from_now (highest_of c c.jobs.ready)) × (x.rivals ≡ 0))
          ⊎ (Run x i.copyout i.copyin × Decided i.copyin i.copyout × Unended i.copyin × Ahead x s i.copyin)

      chosen_runs : (x : Choice) (c : State) (i : Interval) (q : Option ℕ) → c.table.columns ≡ columns → copying_out i.copyout ≡ false → x.engine ≡ from_now q → x.rivals ≡ 0
          → Runs x (choose c t i q).phase
      unfolding choose
      chosen_runs x c i None e o p z = ((o, p), tt)
      chosen_runs x c i (Some n) e o p z = (
        (o, (t, p, ap (λ (l : List ℕ). later t (copyin_length l n)) e)),
        λ k l m. clash (member k 0) (subst (λ (r : ℕ). member k r ≡ true) z m) (none k),
      )

      -- step e
      e_free : (x : Choice) (c : State) (i : Interval) → c.table.columns ≡ columns → i.copyin ≡ Unchosen → copying_out i.copyout ≡ false → x.engine ≡ from_now (highest_of c c.jobs.ready)
          → x.rivals ≡ 0 → Runs x (step_e c t (Within i)).phase
      unfolding step_e choose_if
      e_free x c i e u v p z =
          subst (λ (k : CopyIn). Runs x (choose_if c t i k).phase) (sym u)
          (subst (λ (b : Bool). Runs x (cond b c (choose c t i (highest_of c c.jobs.ready))).phase) (sym v) (chosen_runs x c i (highest_of c c.jobs.ready) e v p z))

      e_keeps : (x : Choice) (c : State) → DecidedAt c.phase → Runs x c.phase → Runs x (step_e c t c.phase).phase
      e_keeps x c d r =
          e_cases (λ z. Runs x z.phase) c t r
          (λ i p u v. clash (copying_out i.copyout) (subst (λ (k : CopyIn). Decided k i.copyout) u (subst DecidedAt p d)) v)

      e_runs : (x : Choice) (c : State) → c.table.columns ≡ columns → Ready x c 0 c.phase → Runs x (step_e c t c.phase).phase
      e_runs x c e h = go c.phase refl h
        where
          go : (p : Phase) → c.phase ≡ p → Ready x c 0 p → Runs x (step_e c t c.phase).phase
          go (Between next outgoing) p h = e_keeps x c (subst DecidedAt (sym p) tt) (subst (Runs x) (sym p) h)
          go (Within i) p h =
              ⊎_elim (λ r. subst (λ (q : Phase). Runs x (step_e c t q).phase) (sym p) (e_free x c i e r.0 r.1 r.2 r.3))
              (λ r. e_keeps x c (subst DecidedAt (sym p) r.1) (subst (Runs x) (sym p) (r.0, r.3))) h

      -- what gives way is held, and where it is under way it does so before its end
      abbrev Early : Choice → ℕ → Type 0
      Early x n = (copyin_task x.engine ≡ Some n) × ((u : ℕ) → x.engine ≡ Copying n u → Some t ≡ Some u → ⊥)

      abbrev Gave : Choice → State → State → Type 0
      Gave x c z = ((n : ℕ) × (giving_events_in c.phase z.phase ≡ GivesWay n ∷ []) × Early x n × Ready (choice_by pr columns x (GivesWay n)) z 0 z.phase) ⊎ (z ≡ c)

      cancelled : (x : Choice) (c : State) (i : Interval) (n fate : ℕ) → copying_out i.copyout ≡ false
          → let z : State = cancel c i n fate true in Ready (choice_by pr columns x (GivesWay n)) z 0 z.phase
      unfolding cancel
      cancelled x c i n fate o = inr ((o, refl), tt, tt, tt)

      d_gave : (x : Choice) (c : State) (taken s : ℕ) → Ready x c s c.phase → Gave x c (step_d c taken c.phase)
      d_gave x c taken s h = d_fates (Gave x c) c taken (inr refl) (λ i n fate p held b. inl (gives i n fate p held (subst (Ready x c s) p h)))
        where
          gives_it : (i : Interval) (n fate : ℕ) → HeldFor i.copyin n fate → giving_events_in (Within i) (cancel c i n fate true).phase ≡ GivesWay n ∷ []
          gives_it i n fate h =
              unfold cancel giving_events_in giving_events in
              ⊎_elim (λ z. ap (λ (c : CopyIn). giving_events (given_way c) (Some n)) z.1) (λ z. ap (λ (c : CopyIn). giving_events (given_way c) (Some n)) z.0) h

          held_run : (i : Interval) (n fate : ℕ) → HeldFor i.copyin n fate → Ready x c s (Within i) → (copying_out i.copyout ≡ false) × (Early x n)
          held_run i n fate held r =
              ⊎_elim (λ a. ⊎_elim (λ z. absurd (true≢false (ap is_unchosen (sym a.0 ∙ z.1)))) (λ z. absurd (true≢false (ap is_unchosen (sym a.0 ∙ z.0)))) held)
              (λ a. ⊎_elim (λ z. copying z.0 z.1 a.0 a.2) (λ z. loaded z.0 a.0) held) r
            where
              early : (until b u : ℕ) → until ≡ later b (copyin_length columns n) → eqb until t ≡ false → until ≤ 3000000000 → Copying n (b + copyin_length columns n) ≡ Copying n u → Some t ≡ Some u → ⊥
              early until b u e f l g z =
                  let same : b + copyin_length columns n ≡ u = cc in
                  let now : t ≡ u = cc in
                  eqb-false until t f (e ∙ exact b (copyin_length columns n) (subst (λ (y : ℕ). y ≤ 3000000000) e l) ∙ same ∙ sym now)

              copying : (until : ℕ) → i.copyin ≡ Copying n until → Run x i.copyout i.copyin → Unended i.copyin → (copying_out i.copyout ≡ false) × (Early x n)
              copying until e r u =
                  let y : Run x i.copyout (Copying n until) = subst (Run x i.copyout) e r in
                  let v : Unended (Copying n until) = subst Unended e u in
                  (y.0, (ap copyin_task y.1.1, λ u f z. early until y.1.0 u y.1.2 v.0 v.1 (sym y.1.1 ∙ f) z))

              loaded : i.copyin ≡ Loaded n → Run x i.copyout i.copyin → (copying_out i.copyout ≡ false) × (Early x n)
              loaded e r =
                  let y : Run x i.copyout (Loaded n) = subst (Run x i.copyout) e r in
                  (y.0, (ap copyin_task y.1, λ u f z. absurd (false≢true (ap is_copying (sym y.1 ∙ f)))))

          gives : (i : Interval) (n fate : ℕ) → c.phase ≡ Within i → HeldFor i.copyin n fate → Ready x c s (Within i)
              → let z : State = cancel c i n fate true in (m : ℕ) × (giving_events_in c.phase z.phase ≡ GivesWay m ∷ []) × Early x m × Ready (choice_by pr columns x (GivesWay m)) z 0 z.phase
          gives i n fate p held r =
              let h = held_run i n fate held r in
              (n, subst (λ (q : Phase). giving_events_in q (cancel c i n fate true).phase ≡ GivesWay n ∷ []) (sym p) (gives_it i n fate held), h.1, cancelled x c i n fate h.0)

      -- step c
      c_ready : (x : Choice) (b c : State) (taken s : ℕ) (p : Phase) → Ready x c s p → Ready x c s (with_candidates b taken p)
      unfolding with_candidates
      c_ready x b c taken s (Between next outgoing) h = h
      c_ready x b c taken s (Within i) h = h

      -- behind step d none of those taken and marked has a higher priority than the one that the engine copies in
      abbrev Beats : ℕ → CopyIn → Type 0
      Beats s Unchosen = Unit {0}
      Beats s NoneChosen = Unit {0}
      Beats s (Copying n until) = (k : ℕ) → k < 32 → member k s ≡ true → get_or pr n 0 ≤ get_or pr k 0
      Beats s (Loaded n) = (k : ℕ) → k < 32 → member k s ≡ true → get_or pr n 0 ≤ get_or pr k 0
      Beats s (Cancelled n fate) = Unit {0}

      abbrev BeatsAt : ℕ → Phase → Type 0
      BeatsAt s (Between next outgoing) = Unit {0}
      BeatsAt s (Within i) = Beats s i.copyin

      d_beats : (c : State) (taken : ℕ) → c.table.priority ≡ pr → BeatsAt (intersection taken c.marked) (step_d c taken c.phase).phase
      unfolding step_d cancel_by cancel
      d_beats c taken e = go c.phase refl
        where
          stays : (n : ℕ) (q : Option ℕ) → Best c.table.priority (intersection taken c.marked) q → outranks c n q ≡ false → (k : ℕ) → k < 32 → member k (intersection taken c.marked) ≡ true → get_or pr n 0 ≤ get_or pr k 0
          stays n None b o k l m = clash (member k (intersection taken c.marked)) m (b k l)
          stays n (Some h) b o k l m =
              subst (λ (p : List ℕ). get_or p n 0 ≤ get_or p k 0) e (omega (arith, ltb-false (get_or c.table.priority h 0) (get_or c.table.priority n 0) o, b.2 k l m))

          highest_is : Best c.table.priority (intersection taken c.marked) (highest_of c (intersection taken c.marked))
          highest_is = best c.table.priority (λ k. get_or c.jobs.release k 0) (intersection taken c.marked)

          go_outranks : (i : Interval) (n fate : ℕ) (b : Bool) → c.phase ≡ Within i → (b ≡ false → BeatsAt (intersection taken c.marked) (Within i)) → BeatsAt (intersection taken c.marked) (cancel c i n fate b).phase
          go_outranks i n fate true p f = tt
          go_outranks i n fate false p f = subst (BeatsAt (intersection taken c.marked)) (sym p) (f refl)

          go_copyin : (i : Interval) (k : CopyIn) → c.phase ≡ Within i → i.copyin ≡ k → BeatsAt (intersection taken c.marked) (cancel_by c taken i k).phase
          go_copyin i Unchosen p u = subst (BeatsAt (intersection taken c.marked)) (sym p) (subst (Beats (intersection taken c.marked)) (sym u) tt)
          go_copyin i NoneChosen p u = subst (BeatsAt (intersection taken c.marked)) (sym p) (subst (Beats (intersection taken c.marked)) (sym u) tt)
          go_copyin i (Copying n until) p u =
              go_outranks i n 2 (outranks c n (highest_of c (intersection taken c.marked))) p (λ o. subst (Beats (intersection taken c.marked)) (sym u) (stays n (highest_of c (intersection taken c.marked)) highest_is o))
          go_copyin i (Loaded n) p u =
              go_outranks i n 3 (outranks c n (highest_of c (intersection taken c.marked))) p (λ o. subst (Beats (intersection taken c.marked)) (sym u) (stays n (highest_of c (intersection taken c.marked)) highest_is o))
          go_copyin i (Cancelled n fate) p u = subst (BeatsAt (intersection taken c.marked)) (sym p) (subst (Beats (intersection taken c.marked)) (sym u) tt)

          go : (p : Phase) → c.phase ≡ p → BeatsAt (intersection taken c.marked) (step_d c taken p).phase
          go (Between next outgoing) p = subst (BeatsAt (intersection taken c.marked)) (sym p) tt
          go (Within i) p = go_copyin i i.copyin p refl

      d_stays : (x : Choice) (c : State) (s : ℕ) (p : Phase) → BeatsAt s p → Ready x c s p → Ready x c 0 p
      d_stays x c s (Between next outgoing) b h = h
      d_stays x c s (Within i) b h = ⊎_elim inl (λ r. inr (r.0, r.1, r.2, go i.copyin b r.3)) h
        where
          leads : (n : ℕ) → ((k : ℕ) → k < 32 → member k s ≡ true → get_or pr n 0 ≤ get_or pr k 0) → Leads x s n → Leads x 0 n
          leads n b a k l m = inr (⊎_elim (λ z. b k l z) (λ z. z) (a k l m))

          go : (k : CopyIn) → Beats s k → Ahead x s k → Ahead x 0 k
          go Unchosen b a = tt
          go NoneChosen b a = tt
          go (Copying n until) b a = leads n b a
          go (Loaded n) b a = leads n b a
          go (Cancelled n fate) b a = tt

      gives_chosen : (x : Choice) (b : State) (taken deferred : ℕ) (ys : List Event) → (step_c b t taken deferred).table.columns ≡ columns → (step_c b t taken deferred).table.priority ≡ pr
          → (let c : State = step_c b t taken deferred in Ready x c (intersection taken c.marked) c.phase)
          → ((y : Choice) → Like x y → Runs y (steps_c_to_e b t taken deferred).phase → T y ys)
          → T x (giving_events_in b.phase (steps_c_to_e b t taken deferred).phase ++ ys)
      unfolding steps_c_to_e steps_c_d
      gives_chosen x b taken deferred ys e f h k =
          let c : State = step_c b t taken deferred in
          let y : State = step_d c taken c.phase in
          let z : Phase = (step_e y t y.phase).phase in
          let same : giving_events_in b.phase z ≡ giving_events_in c.phase y.phase = sym (c_same [] b t taken deferred z) ∙ e_same [] y t c.phase in
          ⊎_elim
          (λ g. subst (λ (es : List Event). T x (es ++ ys)) (sym (same ∙ g.1)) (gone g.0 g.2 (k (choice_by pr columns x (GivesWay g.0)) (record { ready = refl; origins = λ j. refl; works = refl })
          (e_runs (choice_by pr columns x (GivesWay g.0)) y (ap (λ (f : Frame). f.table.columns) (d_frame c taken) ∙ e) g.3))))
          (λ g. subst (λ (es : List Event). T x (es ++ ys)) (sym (same ∙ ap (λ (s : State). giving_events_in c.phase s.phase) g ∙ gives_same [] c.phase))
          (k x (like x) (subst (λ (s : State). Runs x (step_e s t s.phase).phase) (sym g)
          (e_runs x c e (d_stays x c (intersection taken c.marked) c.phase (subst (λ (s : State). BeatsAt (intersection taken c.marked) s.phase) g (d_beats c taken f)) h)))))
          (d_gave x c taken (intersection taken c.marked) h)
        where
          number : (a b : ℕ) → Some a ≡ Some b → a ≡ b
          number a b e = cc

          gone : (n : ℕ) → Early x n → T (choice_by pr columns x (GivesWay n)) ys → T x (GivesWay n ∷ ys)
          gone n f h =
              unfold Chosen in (
                ((λ n y z. absurd (false≢true y)), (λ m y z. subst (Early x) (number n m z) f), (λ y. absurd (false≢true y)), (λ y. absurd (false≢true y)), (λ y. absurd (false≢true y))),
                h,
              )

      -- ---- f

      f_chosen : (x : Choice) (pending : ℕ) (s : Stage) (p : Phase) (ys : List Event) → s.state.phase ≡ p → Readies x pending p → Runs x p → Working x p
          → ((y : Choice) → ((k : ℕ) → y.origins k ≡ x.origins k) → Readies y pending (step_b s t p).state.phase → Runs y (step_b s t p).state.phase → Working y (step_b s t p).state.phase → T y ys)
          → T x (end_events t p (step_b s t p).state.phase ++ ys)
      unfolding step_b close_stage close end_events
      f_chosen x pending s (Between next outgoing) ys e h m v k = k x (λ j. refl) (subst (Readies x pending) (sym e) h) (subst (Runs x) (sym e) m) (subst (Working x) (sym e) v)
      f_chosen x pending s (Within i) ys e h m v k = go (over i) refl k
        where
          stays : (q : Phase) → q ≡ Within i → ((y : Choice) → ((k : ℕ) → y.origins k ≡ x.origins k) → Readies y pending q → Runs y q → Working y q → T y ys) → T x (end_events t (Within i) q ++ ys)
          stays q z k = rw z (k x (λ j. refl) (subst (Readies x pending) (sym z) h) (subst (Runs x) (sym z) m) (subst (Working x) (sym z) v))

          go : (b : Bool) → over i ≡ b
              → ((y : Choice) → ((k : ℕ) → y.origins k ≡ x.origins k) → Readies y pending (close_stage s t i b).state.phase → Runs y (close_stage s t i b).state.phase → Working y (close_stage s t i b).state.phase → T y ys)
              → T x (end_events t (Within i) (close_stage s t i b).state.phase ++ ys)
          go true o k =
              unfold Chosen in (
                ((λ n y z. absurd (false≢true y)), (λ n y. absurd (false≢true y)), (λ y. run_settled x i.copyout i.copyin (settles i o) m.0), (λ y. absurd (false≢true y)), (λ y. absurd (false≢true y))),
                k (choice_by pr columns x (Ends t)) (λ j. refl) (λ j l. omega (arith, h j l, b_outgoing_bit present tasks j i.processor (rests i o), b_copyout_bit present tasks j i.copyout (no_copyout i o)))
                    refl (v ∙ ap not (rests i o)),
              )
          go false o k = stays s.state.phase e k

      -- ---- g

      bit_most : (b : Bool) → bit b ≤ 1
      bit_most true = omega arith
      bit_most false = omega arith

      bit_same : (a b : Bool) → bit a ≡ bit b → a ≡ b
      bit_same true true h = refl
      bit_same true false h = absurd (omega arith)
      bit_same false true h = absurd (omega arith)
      bit_same false false h = refl

      taken_off : (n k s : ℕ) → k < 32 → bit (eqb k n) ≤ bit (member k s) → bit (member k (remove n s)) + bit (eqb k n) ≡ bit (member k s)
      taken_off n k s l h = rw (removed n s k l) (by-test (eqb k n) (λ e. rw e (let z : 1 ≤ bit (member k s) = rw e at h in omega (arith, bit_most (member k s)))) (λ e. rw e (omega arith)))

      -- the job that an interval executes is not to be executed any more
      off : (table : Table) (next : Next) (k s : ℕ) → k < 32 → next_bit k next ≤ bit (member k s)
          → bit (member k (without_task (processor_task (begin_processor table t next)) s)) + next_bit k next ≡ bit (member k s)
      off table NoneNext k s l h = omega arith
      off table (LoadedNext n) k s l h = taken_off n k s l h
      off table (PromotedNext n) k s l h = taken_off n k s l h

      -- where an interval begins
      abbrev begun : Choice → Table → Next → Outgoing → Choice
      begun x table next outgoing = choice_by pr columns x (Begins t (processor_task (begin_processor table t next)) (copyout_task (begin_copyout table t outgoing)))

      module _ (x : Choice) (f : State) (taken : ℕ) (next : Next) (outgoing : Outgoing) (e : f.table.priority ≡ pr) (c : f.table.columns ≡ columns)
          (h : Parted present tasks f (Between next outgoing)) (readies : Readies x f.jobs.pending (Between next outgoing)) (since : (k : ℕ) → k < 32 → (x.origins k).since ≡ get_or f.jobs.release k 0) where
        left_over : (k : ℕ) → k < 32 → bit (member k (begun x f.table next outgoing).ready) + next_bit k next ≡ bit (member k x.ready)
        left_over k l = off f.table next k x.ready l (omega (arith, readies k l, h.parts k l))

        begun_readies : Readies (begun x f.table next outgoing) f.jobs.pending (begin f t taken next outgoing).phase
        unfolding begin
        begun_readies k l = omega (arith, left_over k l, readies k l, g_processor present tasks k f.table t next, g_copyout present tasks k f.table t outgoing)

      begun_runs : (x : Choice) (f : State) (taken : ℕ) (next : Next) (outgoing : Outgoing) → f.table.priority ≡ pr → f.table.columns ≡ columns
          → Parted present tasks f (Between next outgoing) → Readies x f.jobs.pending (Between next outgoing) → ((k : ℕ) → k < 32 → (x.origins k).since ≡ get_or f.jobs.release k 0)
          → let b : State = begin f t taken next outgoing in
          Runs (begun x f.table next outgoing) (step_e b t b.phase).phase
      begun_runs x f taken next outgoing e c h readies since = e_runs (begun x f.table next outgoing) (begin f t taken next outgoing) (unfold begin in c) (go outgoing h readies)
        where
          go : (outgoing : Outgoing) → Parted present tasks f (Between next outgoing) → Readies x f.jobs.pending (Between next outgoing)
              → let b : State = begin f t taken next outgoing in Ready (begun x f.table next outgoing) b 0 b.phase
          go (AwaitsCopyOut m start) h readies = unfold begin in inr (refl, refl, tt, tt)
          go NoneOutgoing h readies =
              unfold begin in
              inl (
                refl,
                refl,
                ap from_now (highest_same pr (λ k. (x.origins k).since) (λ k. get_or f.jobs.release k 0) (begun x f.table next NoneOutgoing).ready f.jobs.ready
                    (λ k l. bit_same _ _ (omega (arith, left_over x f taken next NoneOutgoing e c h readies since k l, readies k l, h.parts k l))) since
                    ∙ ap (λ (p : List ℕ). highest p (λ k. get_or f.jobs.release k 0) f.jobs.ready) (sym e)),
                refl,
              )

      -- ---- the places that a step leaves

      c_spots : (k : ℕ) (d : State) (taken : ℕ) (p : Phase) → spots k (with_candidates d taken p) ≡ spots k p
      unfolding with_candidates
      c_spots k d taken (Between next outgoing) = refl
      c_spots k d taken (Within i) = refl

      d_spots : (k : ℕ) (d : State) (taken : ℕ) → spots k (step_d d taken d.phase).phase ≡ spots k d.phase
      unfolding cancel
      d_spots k d taken = d_cases (λ x. spots k x.phase ≡ spots k d.phase) d taken refl (λ i n u e s b. rw e)

      choose_spots : (k : ℕ) (d : State) (i : Interval) (q : Option ℕ) → spots k (choose d t i q).phase ≡ spots k (Within i)
      unfolding choose
      choose_spots k d i None = refl
      choose_spots k d i (Some q) = refl

      e_spots : (k : ℕ) (d : State) → spots k (step_e d t d.phase).phase ≡ spots k d.phase
      e_spots k d = e_cases (λ x. spots k x.phase ≡ spots k d.phase) d t refl (λ i e s u. choose_spots k d i (highest_of d d.jobs.ready) ∙ ap (spots k) (sym e))

      spots_e : (k : ℕ) (d : State) (set : ℕ) → spots k (at_e d t set).phase ≡ spots k (at_b d t).state.phase
      unfolding at_e step_c
      spots_e k d set =
          let b : State = (at_b d t).state in
          let taken : ℕ = taken_at d t set in
          let c : State = step_c b t taken (deferred_at d t set) in
          e_spots k (step_d c taken c.phase) ∙ d_spots k c taken ∙ c_spots k b taken b.phase

      -- and whether the processor is through with its job
      choose_rest : (d : State) (i : Interval) (q : Option ℕ) → rest_of (choose d t i q).phase ≡ resting i.processor
      unfolding choose
      choose_rest d i None = refl
      choose_rest d i (Some q) = refl

      e_rest : (d : State) → rest_of (step_e d t d.phase).phase ≡ rest_of d.phase
      e_rest d = e_cases (λ x. rest_of x.phase ≡ rest_of d.phase) d t refl (λ i e s u. choose_rest d i (highest_of d d.jobs.ready) ∙ ap rest_of (sym e))

      d_rest : (d : State) (taken : ℕ) → rest_of (step_d d taken d.phase).phase ≡ rest_of d.phase
      unfolding cancel
      d_rest d taken = d_cases (λ x. rest_of x.phase ≡ rest_of d.phase) d taken refl (λ i n u e s b. rw e)

      c_rest : (d : State) (taken : ℕ) (p : Phase) → rest_of (with_candidates d taken p) ≡ rest_of p
      unfolding with_candidates
      c_rest d taken (Between next outgoing) = refl
      c_rest d taken (Within i) = refl

      rest_e : (d : State) (set : ℕ) → rest_of (at_e d t set).phase ≡ rest_of (at_b d t).state.phase
      unfolding at_e step_c
      rest_e d set =
          let b : State = (at_b d t).state in
          let taken : ℕ = taken_at d t set in
          let c : State = step_c b t taken (deferred_at d t set) in
          e_rest (step_d c taken c.phase) ∙ d_rest c taken ∙ c_rest b taken b.phase

      -- ---- an interval that begins

      begins_on : (x : Choice) (r l : Option ℕ) (ys : List Event) → T (choice_by pr columns x (Begins t r l)) ys → T x (Begins t r l ∷ ys)
      unfolding Chosen
      begins_on x r l ys h = (((λ n y z. absurd (false≢true y)), (λ n y z. absurd (false≢true y)), (λ y. absurd (false≢true y)), (λ y. absurd (false≢true y)), (λ y. absurd (false≢true y))), h)

      begun_works : (table : Table) (next : Next) → has_task (processor_task (begin_processor table t next)) ≡ not (resting (begin_processor table t next))
      begun_works table NoneNext = refl
      begun_works table (LoadedNext n) = refl
      begun_works table (PromotedNext n) = refl

      begin_rest : (f : State) (taken : ℕ) (next : Next) (outgoing : Outgoing) → rest_of (begin f t taken next outgoing).phase ≡ resting (begin_processor f.table t next)
      unfolding begin
      begin_rest f taken next outgoing = refl

      opens_chosen : (x : Choice) (table : Table) (next : Next) (outgoing : Outgoing) (q : Phase) (ys : List Event)
          → Both table.columns t (begin_processor table t next) (begin_copyout table t outgoing) q → T (begun x table next outgoing) ys → T x (begin_events t (Between next outgoing) q ++ ys)
      unfolding begin_events
      opens_chosen x table next outgoing (Between y z) ys b h = absurd b
      opens_chosen x table next outgoing (Within j) ys b h =
          subst (λ (o : CopyOut). T x (Begins t (processor_task j.processor) (copyout_task o) ∷ ys)) (sym b.1)
          (subst (λ (q : Processor). T x (Begins t (processor_task q) (copyout_task (begin_copyout table t outgoing)) ∷ ys)) (sym b.0)
          (begins_on x (processor_task (begin_processor table t next)) (copyout_task (begin_copyout table t outgoing)) ys h))

      shut_chosen : (x : Choice) (next : Next) (outgoing : Outgoing) (q : Phase) (ys : List Event) → q ≡ Between next outgoing → T x ys → T x (begin_events t (Between next outgoing) q ++ ys)
      unfolding begin_events
      shut_chosen x next outgoing q ys e h = rw e h

      -- the same times
      abbrev SinceAs : Choice → State → Type 0
      SinceAs x f = (k : ℕ) → k < 32 → (x.origins k).since ≡ get_or f.jobs.release k 0

      g_chosen : (x : Choice) (f : State) (taken : ℕ) (p : Phase) (ys : List Event) → f.phase ≡ p → f.table.priority ≡ pr → f.table.columns ≡ columns → Parted present tasks f p
          → Readies x f.jobs.pending p → Runs x p → SinceAs x f → Working x p
          → ((y : Choice) → ((k : ℕ) → y.origins k ≡ x.origins k) → Readies y f.jobs.pending (step_g f t taken p).phase → Runs y (step_g f t taken p).phase → Working y (step_g f t taken p).phase → T y ys)
          → T x (begin_events t p (step_g f t taken p).phase ++ ys)
      unfolding step_g begin_events
      g_chosen x f taken (Within i) ys e a c h readies runs since v k = k x (λ j. refl) (subst (Readies x f.jobs.pending) (sym e) readies) (subst (Runs x) (sym e) runs) (subst (Working x) (sym e) v)
      g_chosen x f taken (Between next outgoing) ys e a c h readies runs since v k = go (wanted next outgoing f.jobs.ready) refl k
        where
          b : State
          b = begin f t taken next outgoing

          go : (z : Bool) → wanted next outgoing f.jobs.ready ≡ z
              → ((y : Choice) → ((k : ℕ) → y.origins k ≡ x.origins k) → Readies y f.jobs.pending (cond z (step_e b t b.phase) f).phase → Runs y (cond z (step_e b t b.phase) f).phase → Working y (cond z (step_e b t b.phase) f).phase → T y ys)
              → T x (begin_events t (Between next outgoing) (cond z (step_e b t b.phase) f).phase ++ ys)
          go true w k =
              opens_chosen x f.table next outgoing (step_e b t b.phase).phase ys
              (begun_both f.table.columns t b (begin_processor f.table t next) (begin_copyout f.table t outgoing) (unfold begin in (refl, refl)))
              (k (begun x f.table next outgoing) (λ j. refl)
              (λ j l. ap (λ (s : ℕ). bit (member j (begun x f.table next outgoing).ready) + s) (e_spots j b) ∙ begun_readies x f taken next outgoing a c h readies since j l)
              (begun_runs x f taken next outgoing a c h readies since)
              (begun_works f.table next ∙ ap not (sym (e_rest b ∙ begin_rest f taken next outgoing))))
          go false w k = shut_chosen x next outgoing f.phase ys e (k x (λ j. refl) (subst (Readies x f.jobs.pending) (sym e) readies) (subst (Runs x) (sym e) runs) (subst (Working x) (sym e) v))

      -- ---- the releases

      abbrev took : Choice → ℕ → ℕ → Choice
      took x taken w = after (choice_by pr columns) x (take_events 32 taken w t)

      abbrev held : Choice → ℕ → ℕ → ℕ → Choice
      held x taken w deferred = after (choice_by pr columns) (took x taken w) (defer_events 32 deferred t)

      module _ (x : Choice) (b : State) (taken deferred w : ℕ) (e : b.table.priority ≡ pr) (h : Parted present tasks b b.phase) (readies : Readies x b.jobs.pending b.phase)
          (origins : (k : ℕ) → k < 32 → OriginIs k (x.origins k) b.jobs.release b.waiting) (new : (k : ℕ) → k < 32 → member k taken ≡ true → member k b.jobs.pending ≡ false) where
        abbrev c : State
        c = step_c b t taken deferred

        took_ready : (k : ℕ) → k < 32 → member k (took x taken w).ready ≡ (member k x.ready || member k taken)
        took_ready k l = ap (member k) (readies_of (take_events 32 taken w t) x) ∙ takes_ready taken w k x.ready l

        held_readies : (k : ℕ) → k < 32 → bit (member k (held x taken w deferred).ready) + spots k b.phase ≡ bit (member k (union b.jobs.pending taken))
        held_readies k l =
            ap (λ (r : ℕ). bit (member k r) + spots k b.phase) (defers_same deferred 32 (took x taken w)).ready
            ∙ ap (λ (z : Bool). bit z + spots k b.phase) (took_ready k l)
            ∙ go (member k taken) (member k x.ready) (member k b.jobs.pending) (new k l) (readies k l)
            ∙ ap bit (sym (united b.jobs.pending taken k l))
          where
            go : (a r p : Bool) → (a ≡ true → p ≡ false) → bit r + spots k b.phase ≡ bit p → bit (r || a) + spots k b.phase ≡ bit (p || a)
            go true true p f z = absurd (omega (arith, ap bit (f refl)))
            go true false true f z = absurd (true≢false (f refl))
            go true false false f z = omega arith
            go false true true f z = z
            go false true false f z = z
            go false false true f z = z
            go false false false f z = z

        took_origin : (k : ℕ) (l : k < 32) → (took x taken w).origins k ≡ taken_origin k l taken t (x.origins k)
        took_origin k l = origins_of (take_events 32 taken w t) x k ∙ takes_origin k l taken w t (x.origins k)

        held_origin : (k : ℕ) (l : k < 32) → (held x taken w deferred).origins k ≡ deferred_origin k l deferred t (taken_origin k l taken t (x.origins k))
        held_origin k l = origins_of (defer_events 32 deferred t) (took x taken w) k ∙ defers_origin k l deferred t ((took x taken w).origins k) ∙ ap (deferred_origin k l deferred t) (took_origin k l)

        held_origins : (k : ℕ) → k < 32 → OriginIs k ((held x taken w deferred).origins k) c.jobs.release c.waiting
        held_origins k l = subst (λ (o : Origin). OriginIs k o c.jobs.release c.waiting) (sym (held_origin k l)) (c_origin k l b t taken deferred (x.origins k) (origins k l))

        took_since : (k : ℕ) → k < 32 → ((took x taken w).origins k).since ≡ get_or c.jobs.release k 0
        took_since k l =
            ap (λ (o : Origin). o.since) (took_origin k l) ∙ sym (still (member k deferred) (taken_origin k l taken t (x.origins k)))
            ∙ (c_origin k l b t taken deferred (x.origins k) (origins k l)).since_is
          where
            still : (d : Bool) (o : Origin) → (cond d (record { waits = Some t; since = o.since }) o).since ≡ o.since
            still true o = refl
            still false o = refl

        took_same : (i : Interval) → b.phase ≡ Within i → i.copyin ≡ Unchosen → (k : ℕ) → k < 32 → member k (took x taken w).ready ≡ member k (union b.jobs.ready taken)
        took_same i p u k l =
            took_ready k l ∙ ap (λ (z : Bool). z || member k taken) (bit_same (member k x.ready) (member k b.jobs.ready) (go b.phase p (readies k l) (h.parts k l)))
            ∙ sym (united b.jobs.ready taken k l)
          where
            go : (q : Phase) → q ≡ Within i → bit (member k x.ready) + spots k q ≡ bit (member k b.jobs.pending) → bit (member k b.jobs.pending) ≡ bit (member k b.jobs.ready) + stage k q
                → bit (member k x.ready) ≡ bit (member k b.jobs.ready)
            go q z = rw z (λ m n. omega (arith, ap (copyin_bit k) u))

        held_ready : b.marked ≡ w → Mode x b.phase → Ready (held x taken w deferred) c (intersection taken c.marked) c.phase
        unfolding step_c
        held_ready v m = c_ready (held x taken w deferred) b c taken (intersection taken b.marked) b.phase (go b.phase refl m)
          where
            same : Same (took x taken w) (held x taken w deferred)
            same = defers_same deferred 32 (took x taken w)

            keep : Keeps x (took x taken w)
            keep = takes_keep taken w 32 x

            grow : Grows taken w x (took x taken w)
            grow = takes_grow taken w x

            two : (a b : Bool) → a ≡ true → b ≡ true → (a && b) ≡ true
            two a b e f = rw (e, f) refl

            leads : (n : ℕ) → Leads x 0 n → Leads (held x taken w deferred) (intersection taken b.marked) n
            leads n a k l m =
                ⊎_elim (λ z. ⊎_elim (λ q. clash (member k 0) q (none k)) inr (a k l z))
                (λ z. inl (intersection_member taken b.marked k l ∙ two (member k taken) (member k b.marked) z.0 (subst (λ (y : ℕ). member k y ≡ true) (sym v) z.1)))
                (grow.new k l (subst (λ (r : ℕ). member k r ≡ true) same.rivals m))

            ahead : (k : CopyIn) → Ahead x 0 k → Ahead (held x taken w deferred) (intersection taken b.marked) k
            ahead Unchosen a = tt
            ahead NoneChosen a = tt
            ahead (Copying n until) a = leads n a
            ahead (Loaded n) a = leads n a
            ahead (Cancelled n fate) a = tt

            go : (p : Phase) → b.phase ≡ p → Mode x p → Ready (held x taken w deferred) c (intersection taken b.marked) p
            go (Between next outgoing) z m =
                ⊎_elim (λ n. absurd n.1) (λ n. same.engine ∙ keep.keeps n.0 ∙ n.1) m
            go (Within i) z m =
                ⊎_elim
                (λ n. inl (
                  n.1.0,
                  n.1.1,
                  same.engine ∙ keep.picks n.0 n.1.2
                      ∙ ap from_now (highest_same pr (λ k. ((took x taken w).origins k).since) (λ k. get_or c.jobs.release k 0) (took x taken w).ready (union b.jobs.ready taken) (took_same i z n.1.0) took_since
                      ∙ ap (λ (q : List ℕ). highest q (λ k. get_or c.jobs.release k 0) (union b.jobs.ready taken)) (sym e)),
                  same.rivals ∙ grow.none_new n.0 ∙ n.1.3,
                ))
                (λ n. inr (run_as x (held x taken w deferred) i.copyout i.copyin (same.engine ∙ keep.keeps n.0) n.1.0, n.2, n.3, ahead i.copyin n.1.1)) m

      -- ---- an instant

      module _ (d : State) (set : ℕ) (known : Sub set present) (priority : d.table.priority ≡ pr) (lengths : d.table.columns ≡ columns) (h : Parted present tasks d d.phase) where
        abbrev B : State
        B = (at_b d t).state

        abbrev E : State
        E = at_e d t set

        abbrev F : State
        F = (at_f d t set).state

        abbrev G : State
        G = at_g d t set

        parted_b : Parted present tasks B B.phase
        parted_b = (to_b present tasks d t h).parted

        parted_e : Parted present tasks E E.phase
        parted_e = (to_e present tasks d t set known parted_b).parted

        parted_f : Parted present tasks F F.phase
        unfolding at_f
        parted_f = (b_moves present tasks (fresh_stage E) t E.phase refl parted_e).parted

        frame_f : frame F ≡ frame (at_c d t set)
        unfolding at_f
        frame_f = b_frame (fresh_stage E) t ∙ frame_e d t set

        pending_f : F.jobs.pending ≡ union B.jobs.pending (taken_at d t set)
        pending_f = ap (λ (y : Frame). y.pending) (frame_f ∙ sym (frame_g d t set)) ∙ pending_g d t set

        tail_chosen : (x : Choice) (ys : List Event) → Readies x B.jobs.pending B.phase → ((k : ℕ) → k < 32 → OriginIs k (x.origins k) B.jobs.release B.waiting) → Mode x B.phase → Working x B.phase
            → ((y : Choice) → Agrees y G → T y ys) → T x (take_events 32 (taken_at d t set) d.marked t ++ (tail_of d t set ++ ys))
        unfolding at_e at_f at_g
        tail_chosen x ys readies origins mode v k =
            let taken : ℕ = taken_at d t set in
            let deferred : ℕ = deferred_at d t set in
            let starts : List Event = start_events t F.phase G.phase ++ ys in
            takes_run taken d.marked 32 x (tail_of d t set ++ ys) opens
            (rw (tail_parts d t set ys)
            (defers_run deferred 32 (took x taken d.marked) _ (kept_open x _ (takes_keep taken d.marked 32 x) opens)
            (gives_chosen (held x taken d.marked deferred) B taken deferred _ (ap (λ (y : Table). y.columns) table_c ∙ lengths) (ap (λ (y : Table). y.priority) table_c ∙ priority)
            (held_ready x B taken deferred d.marked priority_b parted_b readies origins new (marked_b d t) mode)
            (λ y a runs. f_chosen y (union B.jobs.pending taken) (fresh_stage E) E.phase _ refl (readies_e y a) runs (a.works ∙ held_works ∙ v ∙ ap not (sym (rest_e d set)))
            (λ u i r m v. g_chosen u F (held_at d t set) F.phase starts refl (ap (λ (z : Table). z.priority) table_f ∙ priority) (ap (λ (z : Table). z.columns) table_f ∙ lengths) parted_f
            (subst (λ (p : ℕ). Readies u p F.phase) (sym pending_f) r) m (λ j l. ap (λ (o : Origin). o.since) (i j ∙ a.origins j) ∙ (held_is j l).since_is ∙ ap (λ (z : Frame). get_or z.release j 0) (sym frame_f)) v
            (λ z o r m v. by_starts (T z) t (λ n es q. on (Starts n t) refl refl refl refl refl z (Some t) es q) F.phase G.phase ys
            (k z (record {
              readies = subst (λ (p : ℕ). Readies z p G.phase) (pending_f ∙ sym (pending_g d t set)) r;
              origins = λ j l. rw (release_g d t set, waiting_g d t set) (subst (λ (u : Origin). OriginIs j u (at_c d t set).jobs.release (at_c d t set).waiting) (sym (o j ∙ i j ∙ a.origins j)) (held_is j l));
              runs = m;
              working = v;
            }))))))))
          where
            opens : Open x
            opens c = ⊎_elim (λ z. clash x.choosing z.0 c) (λ z. not_over x (at_b d t).state.phase z.1 v (open_b d t)) mode

            new : (j : ℕ) → j < 32 → member j (taken_at d t set) ≡ true → member j (at_b d t).state.jobs.pending ≡ false
            new j l m = taken_not_pending (at_b d t).state (passed d t set) j (unfold taken_at in m)

            table_c : (at_c d t set).table ≡ d.table
            table_c = c_table (at_b d t).state t (taken_at d t set) (deferred_at d t set) ∙ table_b d t

            table_f : (at_f d t set).state.table ≡ d.table
            table_f = ap (λ (y : Frame). y.table) frame_f ∙ table_c

            priority_b : (at_b d t).state.table.priority ≡ pr
            priority_b = ap (λ (y : Table). y.priority) (table_b d t) ∙ priority

            held_is : (j : ℕ) → j < 32 → OriginIs j ((held x (taken_at d t set) d.marked (deferred_at d t set)).origins j) (at_c d t set).jobs.release (at_c d t set).waiting
            held_is = held_origins x (at_b d t).state (taken_at d t set) (deferred_at d t set) d.marked priority_b parted_b readies origins new

            held_works : (held x (taken_at d t set) d.marked (deferred_at d t set)).works ≡ x.works
            held_works = (defers_same (deferred_at d t set) 32 (took x (taken_at d t set) d.marked)).works ∙ (takes_keep (taken_at d t set) d.marked 32 x).works

            readies_e : (y : Choice) → Like (held x (taken_at d t set) d.marked (deferred_at d t set)) y → Readies y (union (at_b d t).state.jobs.pending (taken_at d t set)) (at_e d t set).phase
            readies_e y a j l =
                ap (λ (r : ℕ). bit (member j r) + spots j (at_e d t set).phase) a.ready
                ∙ ap (λ (z : ℕ). bit (member j (held x (taken_at d t set) d.marked (deferred_at d t set)).ready) + z) (spots_e j d set)
                ∙ held_readies x (at_b d t).state (taken_at d t set) (deferred_at d t set) d.marked priority_b parted_b readies origins new j l

        front_chosen : (x : Choice) (later : List Event) → Times Plain d.phase → DecidedAt d.phase → x.choosing ≡ false → Agrees x d
            → ((y : Choice) → Readies y B.jobs.pending B.phase → ((k : ℕ) → k < 32 → OriginIs k (y.origins k) B.jobs.release B.waiting) → Mode y B.phase → Working y B.phase → T y later)
            → T x (processor_events_in t d.phase ++ (finish_events_in t d.phase ++ (completion_events (at_a d t).done ++ (end_events t (at_a d t).state.phase B.phase ++ later))))
        unfolding at_b at_a
        front_chosen x later times decided c agrees k =
            let a : Stage = at_a d t in
            a_chosen (at_clock d t) d.phase x (end_events t a.state.phase B.phase ++ later) refl
            (record { few = h.few; marks = h.marks; pending = h.pending; ready = h.ready; waits = h.waits; known = h.known; parts = h.parts }) times agrees.readies agrees.runs decided c agrees.working
            (λ y l r m v. b_chosen y a.state.jobs.pending a a.state.phase later refl r m v
            (λ z i r m v. k z (subst (λ (p : ℕ). Readies z p B.phase) (sym (ap (λ (z : Frame). z.pending) (b_frame a t))) r)
            (λ j s. rw (release_b d t, waiting_b d t) (subst (λ (o : Origin). OriginIs j o d.jobs.release d.waiting) (sym (i j ∙ l j)) (agrees.origins j s))) m v))

        comes_on : (x : Choice) (w : Option ℕ) (es : List Event) → Rest x w → InTime x t → T (choice_by pr columns x (Comes t)) es → Chosen x w (Comes t ∷ es)
        unfolding Chosen
        comes_on x w es r f h = (((λ n y z. absurd (false≢true y)), (λ n y. absurd (false≢true y)), (λ y. absurd (false≢true y)), (λ y. (r, f)), (λ y. absurd (false≢true y))), h)

        -- no instant comes behind the end of a copy-in
        in_time : (x : Choice) (p : Phase) → Times Plain p → Times (λ u. t ≤ u) p → Runs x p → InTime x t
        in_time = under_way (λ u. t ≤ u)

        happens_chosen : (x : Choice) (w : Option ℕ) (ys : List Event) → Times Plain d.phase → Times (λ u. t ≤ u) d.phase → DecidedAt d.phase → Rest x w → Agrees x d → ((y : Choice) → Agrees y G → T y ys) → Chosen x w (happens d t set ++ ys)
        happens_chosen x w ys times due decided rest agrees k =
            let later : List Event = take_events 32 (taken_at d t set) d.marked t ++ (tail_of d t set ++ ys) in
            rw (happens_parts d t set ys, front_parts d t later)
            (comes_on x w _ rest (in_time x d.phase times due agrees.runs)
            (front_chosen (choice_by pr columns x (Comes t)) later times decided refl (record { readies = agrees.readies; origins = agrees.origins; runs = runs_as x (choice_by pr columns x (Comes t)) d.phase refl refl agrees.runs; working = agrees.working })
            (λ y r o m v. tail_chosen y ys r o m v k)))

-- ---- along the calls

module _ (table : Table) (marks : ℕ) (fair : Fair table marks) where
  -- what an instant finds when it comes
  finds : (d : State) (x : Choice) (w : Option ℕ) → Good table marks fair d → ((u : ℕ) → w ≡ Some u → u ≡ last d.clock) → Agrees table.priority table.columns x d → Rest table.priority table.columns x w
  finds d x w g at a =
      rested table.priority table.columns x w (last d.clock) at d.phase (plain table marks fair d g) (sooner d.phase g.times) a.runs a.working g.settled.open_yet
    where
      sooner : (p : Phase) → Times (Until (last d.clock) (mass d) (debt d)) p → Times (λ u. last d.clock < u) p
      sooner p h = times_map (Until (last d.clock) (mass d) (debt d)) (λ u. last d.clock < u) (λ u z. z.after) p h

  chosen : (cs : List Call) (d : State) → Good table marks fair d → (x : Choice) (w : Option ℕ) → ((u : ℕ) → w ≡ Some u → u ≡ last d.clock) → Agrees table.priority table.columns x d
      → Chosen table.priority table.columns x w (history d cs)
  chosen =
      walk (λ d h. Good table marks fair d → (x : Choice) (w : Option ℕ) → ((u : ℕ) → w ≡ Some u → u ≡ last d.clock) → Agrees table.priority table.columns x d → Chosen table.priority table.columns x w h)
      (λ d g x w at a. unfold Chosen in finds d x w g at a)
      (λ d t set cs e k g x w at a.
      let s : Served-at d t set = served_at d t set e in
      happens_chosen table.priority table.columns t table.present fair.present d set (subst (λ (y : Table). Sub set y.present) g.table_is s.known)
      (ap (λ (y : Table). y.priority) g.table_is) (ap (λ (y : Table). y.columns) g.table_is) g.parted x w (history (at_g d t set) cs) (plain table marks fair d g) s.due g.settled.decided
      (finds d x w g at a) a
      (λ y b. k (good_next table marks fair d t set g s) y (Some t) (λ u e. let z : u ≡ t = cc in z ∙ sym (ap last (clock_g d t set))) b))
      (λ d m e h k g x w at a. k (good_quiet table marks fair d m e g) x w at (record { readies = a.readies; origins = a.origins; runs = a.runs; working = a.working }))

  -- every list of calls from the state that opening returned
  pub all_copies : (cs : List Call) → Copies table.priority table.columns (history (opened table marks) cs)
  all_copies cs =
      copies table.priority table.columns (history (opened table marks) cs)
      (chosen cs (opened table marks) (good_opened table marks fair) no_choice None (λ u e. absurd (never u e)) first)
    where
      never : (t : ℕ) → None ≡ Some t → ⊥
      never t e = let z : ◌≡◌ {A = ℕ} 0 1 = cc in omega arith

      first : Agrees table.priority table.columns no_choice (opened table marks)
      first = record { readies = unfold opened in λ k l. rw (none k) refl; origins = λ k l. opened_origin table marks k l; runs = unfold opened in refl; working = unfold opened in refl }
