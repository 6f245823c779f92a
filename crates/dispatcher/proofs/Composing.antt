-- The steps of an instant one behind the other: what is left and what is told. Assumes nothing.
use Rattle.std.proofs.Common.{◌≡◌, ℕ, false, List, [], ◌∷◌, length, get_or, set as put, refl, ap, ◌∙◌, subst}
use Rattle.sets.specs.Sets.{union, difference}
use Rattle.rules.specs.With.{at_clock}
use Rattle.rules.specs.Instant.{released, taken, deferred, skipped, step_a, step_f, step_g, steps_c_d, due, closing, occurred}
use Rattle.rules.specs.Registers.{phase_in, state_in}
use Rattle.rules.specs.Kept.{Kept, Whole, Beside, registers_in, read, Becomes, copyout_ends}
use Rattle.rules.specs.Steps.{TooSoonAt, HeldOverAt, CopiesOut, TestedAt}
use Rattle.rules.specs.declared.ReleaseFates.{ReleaseFates}
use Rattle.rules.proofs.Kept.{Long, by_length}
use Rattle.rules.proofs.Instants.{Left, left, occurred_by, once_here}
use Rattle.dispatcher.specs.Types.{Stage, JobEntry, IntervalEntry, Option, None, Some, Closed, NoInterval, Span, Occurred}
use Rattle.dispatcher.specs.Telling.{job_told, interval_told, due_told, due_number, job_and_whether, before_told, after_told, told_of, occurred_in}
use Rattle.dispatcher.specs.Promises.{DoneFits, TellsJob, ToldInterval, ClosedReads, TestedTold, step_e_f, EndedAt, TellsSkipped, TellsDue, Instant}
use Rattle.dispatcher.proofs.ReadBack.{ClosingReads, back}

-- ---- the interval of steps b and f, of which one at most ended

reads_once : (x y : Closed) → ((e : IntervalEntry) → x ≡ Span e → y ≡ NoInterval) → ClosedReads x → ClosedReads y → ClosingReads (closing x y)
reads_once NoInterval NoInterval h a b = tt
reads_once NoInterval (Span e) h a b = b
reads_once (Span e) y h a b = a

-- ---- the steps that tell

pub job_ends : {t : ℕ} {k k' : Kept} {b : Beside} {e : JobEntry} {told told' : List ℕ} → Some e ≡ (step_a (read k b) t (read k b).phase).done
    → TellsJob e told told' → CopiesOut t k k' b → EndedAt t k b k' told told'
job_ends {t} {k} {b = b} {told = told} d j c = record {
  whole = c.whole;
  no_more = c.no_more;
  state = c.state;
  told_is = j.told_is ∙ ap (λ (z : Option JobEntry). job_and_whether z told) d;
  fits = subst DoneFits d (j.task_fits, j.blocked_fits);
}

pub no_job_ends : {t : ℕ} {k : Kept} {b : Beside} {told : List ℕ} → Whole k → copyout_ends t k.times k.codes ≡ false
    → None ≡ (step_a (read k b) t (read k b).phase).done → EndedAt t k b k told (put told 2 0)
no_job_ends {told = told} w e d = record {
  whole = w;
  no_more = e;
  state = refl;
  told_is = ap (λ (z : Option JobEntry). job_and_whether z told) d;
  fits = subst DoneFits d tt;
}

-- where the interval closes its words are told with the one that says on which side, and where it stays open that of step b is cleared
closes_by : {tell : Closed → List ℕ → List ℕ} {after : Stage} {k' : Kept} {b' : Beside} {x : Closed} {told told' : List ℕ} → TestedAt after k' b' x
    → ClosedReads x → told' ≡ tell x told → TestedTold tell after k' b' told told'
closes_by {tell} {told = told} h r e = record {
  whole = h.whole;
  state = h.state;
  told_is = e ∙ ap (λ (z : Closed). tell z told) h.closed_is;
  reads = subst ClosedReads h.closed_is r;
}

module _ {after : Stage} {k' : Kept} {b' : Beside} {told : List ℕ} where
  pub closes_before : {e : IntervalEntry} {told' : List ℕ} → TestedAt after k' b' (Span e) → ToldInterval e told told'
      → TestedTold before_told after k' b' told (put told' 3 1)
  closes_before h i = closes_by h i.readable (ap (λ (l : List ℕ). put l 3 1) i.told_is)

  pub closes_after : {e : IntervalEntry} {told' : List ℕ} → TestedAt after k' b' (Span e) → ToldInterval e told told'
      → TestedTold after_told after k' b' told (put told' 3 2)
  closes_after h i = closes_by h i.readable (ap (λ (l : List ℕ). put l 3 2) i.told_is)

  pub stays_before : TestedAt after k' b' NoInterval → TestedTold before_told after k' b' told (put told 3 0)
  stays_before h = closes_by h tt refl

  pub stays_after : TestedAt after k' b' NoInterval → TestedTold after_told after k' b' told told
  stays_after h = closes_by h tt refl

-- ---- the words, in the order in which they are told

-- over the words themselves, whatever order: no two steps tell the same one, but for an interval, which ends once
module _ (w0 w1 w2 w3 w4 w5 w6 w7 w8 w9 w10 w11 w12 w13 w14 w15 w16 w17 w18 s : ℕ) where
  abbrev words : List ℕ
  words = w0 ∷ w1 ∷ w2 ∷ w3 ∷ w4 ∷ w5 ∷ w6 ∷ w7 ∷ w8 ∷ w9 ∷ w10 ∷ w11 ∷ w12 ∷ w13 ∷ w14 ∷ w15 ∷ w16 ∷ w17 ∷ w18 ∷ []

  abbrev turn : Option JobEntry → Closed → Closed → Option ℕ → List ℕ
  turn d x y n = put (due_told n (after_told y (put (before_told x (job_and_whether d words)) 1 s))) 4 (due_number n)

  in_turn : (d : Option JobEntry) (x y : Closed) (n : Option ℕ) → ((e : IntervalEntry) → x ≡ Span e → y ≡ NoInterval)
      → turn d x y n ≡ told_of (record { done = d; closed = closing x y; skipped = s; due = n }) words
  unfolding told_of job_told interval_told
  in_turn None NoInterval NoInterval None h = refl
  in_turn None NoInterval NoInterval (Some t) h = refl
  in_turn None NoInterval (Span e) None h = refl
  in_turn None NoInterval (Span e) (Some t) h = refl
  in_turn None (Span e) y None h = ap (λ (z : Closed). turn None (Span e) z None) (h e refl)
  in_turn None (Span e) y (Some t) h = ap (λ (z : Closed). turn None (Span e) z (Some t)) (h e refl)
  in_turn (Some j) NoInterval NoInterval None h = refl
  in_turn (Some j) NoInterval NoInterval (Some t) h = refl
  in_turn (Some j) NoInterval (Span e) None h = refl
  in_turn (Some j) NoInterval (Span e) (Some t) h = refl
  in_turn (Some j) (Span e) y None h = ap (λ (z : Closed). turn (Some j) (Span e) z None) (h e refl)
  in_turn (Some j) (Span e) y (Some t) h = ap (λ (z : Closed). turn (Some j) (Span e) z (Some t)) (h e refl)

told_in_turn : (d : Option JobEntry) (x y : Closed) (s : ℕ) (n : Option ℕ) (told : List ℕ) → length told ≡ 19 → ((e : IntervalEntry) → x ≡ Span e → y ≡ NoInterval)
    → put (due_told n (after_told y (put (before_told x (job_and_whether d told)) 1 s))) 4 (due_number n)
    ≡ told_of (record { done = d; closed = closing x y; skipped = s; due = n }) told
unfolding Long
told_in_turn d x y s n told long once =
    by_length 19 (λ (z : List ℕ). put (due_told n (after_told y (put (before_told x (job_and_whether d z)) 1 s))) 4 (due_number n) ≡ told_of (record { done = d; closed = closing x y; skipped = s; due = n }) z)
    (λ w0 w1 w2 w3 w4 w5 w6 w7 w8 w9 w10 w11 w12 w13 w14 w15 w16 w17 w18. in_turn w0 w1 w2 w3 w4 w5 w6 w7 w8 w9 w10 w11 w12 w13 w14 w15 w16 w17 w18 s d x y n once)
    told long

-- ---- where the state is kept

module _ {kt ka kb kx kf kg : Kept} {bb bx bf : Beside} {fates : ReleaseFates} {soon pass skips held : ℕ} {told-a told-b told-s told-f told-g : List ℕ}
    (k : Kept) (b : Beside) (t set : ℕ) (told : List ℕ) (long : length told ≡ 19) where
  pub composed : TooSoonAt t set k.sets b.columns b.by_task.release b.by_task.waits soon
      → Becomes (λ d. at_clock d t) k b kt b
      → EndedAt t kt b ka told told-a
      → {ko : Kept} → Becomes (λ d. (step_a d t d.phase).state) ka b ko b
      → TestedTold before_told (step_f (read ko b) t) kb bb told-a told-b
      → pass ≡ difference set soon
      → fates ≡ released (get_or kb.sets 1 0) (get_or kb.sets 5 0) pass
      → skips ≡ union soon fates.skipped
      → TellsSkipped skips told-b told-s
      → HeldOverAt kb.codes fates.taken held
      → Becomes (λ d. steps_c_d d t fates.taken fates.deferred) kb bb kx bx
      → TestedTold after_told (step_e_f (read kx bx) t) kf bf told-s told-f
      → Becomes (λ d. step_g d t held d.phase) kf bf kg bf
      → TellsDue kg.times kg.codes told-f told-g
      → Instant (read k b) t set kg bf told told-g
  unfolding state_in taken deferred skipped
  composed soons stamps outs {ko} ends tests passes fate skip skip-told holds moves second begins dues =
      let takes = fate ∙ ap (released (get_or kb.sets 1 0) (get_or kb.sets 5 0)) passes in
      let h : Left (read k b) t set soon fates.taken fates.deferred held (read kt b) (read ko b) (read kb bb) (read kx bx) (read kf bf) (read kg bf) = record {
        soon_is = soons k.times k.codes b.priority b.by_task.blocked;
        timed_is = stamps.state;
        a_is = ends.state ∙ outs.state;
        b_is = tests.state;
        taken_is = ap (λ (z : ReleaseFates). z.taken) takes;
        deferred_is = ap (λ (z : ReleaseFates). z.deferred) takes;
        held_is = holds kb.times kb.sets;
        x_is = moves.state;
        f_is = second.state;
        g_is = begins.state;
      } in
      let x = (step_f (read ko b) t).closed in
      let y = (step_e_f (read kx bx) t).closed in
      let once : (e : IntervalEntry) → x ≡ Span e → y ≡ NoInterval = once_here (read k b) t set h in
      let o : Occurred = record { done = (step_a (read kt b) t (read kt b).phase).done; closed = closing x y; skipped = skips; due = due (phase_in (registers_in kg)) } in
      let occurs : o ≡ occurred (read k b) t set = occurred_by (read k b) t set h refl refl refl refl (skip ∙ ap (λ (z : ReleaseFates). union soon z.skipped) takes) refl in
      let told_is : told-g ≡ told_of o told =
      told_by o.done x y skips o.due once outs.told_is tests.told_is skip-told.told_is second.told_is (dues kg.sets) in
      record {
        whole = begins.whole;
        state = left (read k b) t set h;
        told_is = told_is ∙ ap (λ (z : Occurred). told_of z told) occurs;
        reads = ap occurred_in told_is ∙ back o told long outs.fits (reads_once x y once tests.reads second.reads) skip-told.skipped_fits ∙ occurs;
      }
    where
      told_by : (d : Option JobEntry) (x y : Closed) (s : ℕ) (n : Option ℕ) {la lb ls lf lg : List ℕ} → ((e : IntervalEntry) → x ≡ Span e → y ≡ NoInterval)
          → la ≡ job_and_whether d told → lb ≡ before_told x la → ls ≡ put lb 1 s → lf ≡ after_told y ls → lg ≡ put (due_told n lf) 4 (due_number n)
          → lg ≡ told_of (record { done = d; closed = closing x y; skipped = s; due = n }) told
      told_by d x y s n once a b p f g =
          g ∙ ap (λ (l : List ℕ). put (due_told n l) 4 (due_number n)) (f ∙ ap (after_told y) (p ∙ ap (λ (l : List ℕ). put l 1 s) (b ∙ ap (before_told x) a)))
          ∙ told_in_turn d x y s n told long once
