-- An instant's entries in the order in which they are put: the job done, the interval that ends before the releases, those that are skipped, the
-- interval that ends after them. Assumes nothing.
use mathlib.Core.Path.{◌≡◌, refl, sym, ap, ◌∙◌, subst}
use mathlib.Core.List.{List, [], ◌∷◌, ◌++◌, append-nil}
use Prim.Native.Nat.{ℕ, ◌+◌, ◌-◌, ◌^◌, ◌≤◌}
use native.Mathlib.Omega.{arith}
use lib.ListN.{length, length-append, get_or}
use Rattle.entries.specs.Entries.{interval_bytes, entry_bytes, each, record_entry_size}
use Rattle.entries.proofs.Each.{each_both, each_one, entry_size}
use Rattle.sets.specs.Sets.{union, difference}
use Rattle.rules.specs.With.{at_clock}
use Rattle.rules.specs.Instant.{released, taken, deferred, skipped, step_a, step_f, step_g, steps_c_d, closing, due, sooner, occurred}
use Rattle.rules.specs.Registers.{state_in}
use Rattle.rules.specs.Entries.{done_entries, skipped_entries, closed_entries, entries}
use Rattle.rules.specs.Kept.{Kept, Beside, read, Becomes}
use Rattle.rules.specs.Steps.{Stands, TestedAt, TooSoonAt, HeldOverAt}
use Rattle.rules.specs.declared.ReleaseFates.{ReleaseFates}
use Rattle.rules.proofs.Instants.{step_e_f, Left, left, occurred_by, once_here}
use Rattle.run.specs.Types.{State, Stage, Option, None, Some, Closed, NoInterval, Span, Closing, Unclosed, BeforeReleases, AfterReleases, Occurred, JobEntry, IntervalEntry, RecordEntry, JobDone, IntervalEnded, Batch}
use Rattle.run.specs.Listed.{releases_at}
use Rattle.run.specs.Run.{first_time}
use Rattle.run.specs.Putting.{Puts}
use Rattle.run.specs.Advance.{Gathered, span_entries, CopyOutPut, TestPut, Steps, Advances}
use Rattle.run.proofs.Slices.{skips_most, none, both}
use Rattle.std.specs.Prelude.{Ok}

-- ---- the job that is done, with its entry

pub put_job : {done : Option JobEntry} {e : JobEntry} {place : ℕ} {out out' : List ℕ} → Some e ≡ done → Puts 0 (JobDone e ∷ []) out place out' → Puts 0 (done_entries done) out place out'
put_job {place = place} {out} {out'} h p = subst (λ (z : Option JobEntry). Puts 0 (done_entries z) out place out') h p

pub put_no_job : {done : Option JobEntry} (out : List ℕ) → None ≡ done → Puts 0 (done_entries done) out 0 out
put_no_job out h = subst (λ (z : Option JobEntry). Puts 0 (done_entries z) out 0 out) h (none 0 out)

-- ---- the test of an interval's end, with its entry

pub put_none : {after : Stage} {k : Kept} {b : Beside} (at : ℕ) (out : List ℕ) → TestedAt after k b NoInterval → TestPut after k b at out at out
put_none at out x = record { whole = x.whole; state = x.state; puts = subst (λ (z : Closed). Puts at (span_entries z) out at out) x.closed_is (none at out) }

pub put_span : {after : Stage} {k : Kept} {b : Beside} {e : IntervalEntry} {at place : ℕ} {out out' : List ℕ}
    → TestedAt after k b (Span e) → Puts at (IntervalEnded e ∷ []) out place out' → TestPut after k b at out place out'
put_span {at = at} {place} {out} {out'} x p = record { whole = x.whole; state = x.state; puts = subst (λ (z : Closed). Puts at (span_entries z) out place out') x.closed_is p }

-- ---- the parts

-- an interval stands before the skipped releases, or behind them
in_parts : (x z : Closed) (skips : List RecordEntry) → ((e : IntervalEntry) → x ≡ Span e → z ≡ NoInterval) → closed_entries (closing x z) skips ≡ span_entries x ++ (skips ++ span_entries z)
in_parts NoInterval NoInterval skips g = sym (append-nil skips)
in_parts NoInterval (Span e) skips g = refl
in_parts (Span e) z skips g =
    ap (λ (x : List RecordEntry). IntervalEnded e ∷ x) (sym (append-nil skips))
    ∙ ap (λ (w : Closed). IntervalEnded e ∷ (skips ++ span_entries w)) (sym (g e refl))

module _ {soon taken_now deferred_now held : ℕ} {timed a b x f g : State} (d : State) (t set : ℕ) (h : Left d t set soon taken_now deferred_now held timed a b x f g) where
  in_order : (skips : ℕ) → skips ≡ union soon (skipped b (difference set soon))
      → entries t (occurred d t set)
      ≡ done_entries (step_a timed t timed.phase).done ++ (span_entries (step_f a t).closed ++ (skipped_entries 32 skips t ++ span_entries (step_e_f x t).closed))
  unfolding entries
  in_order skips e =
      let o : Occurred = record { done = (step_a timed t timed.phase).done; closed = closing (step_f a t).closed (step_e_f x t).closed; skipped = skips; due = due g.phase } in
      ap (entries t) (sym (occurred_by d t set h {out = o} refl refl refl refl e refl))
      ∙ ap (λ (y : List RecordEntry). done_entries (step_a timed t timed.phase).done ++ y) (in_parts (step_f a t).closed (step_e_f x t).closed (skipped_entries 32 skips t) (once_here d t set h))

  -- put one behind the other
  pub all_put : {skips p q r s : ℕ} {out out₁ out₂ out₃ out₄ : List ℕ} → skips ≡ union soon (skipped b (difference set soon))
      → Puts 0 (done_entries (step_a timed t timed.phase).done) out p out₁
      → Puts p (span_entries (step_f a t).closed) out₁ q out₂
      → Puts q (skipped_entries 32 skips t) out₂ r out₃
      → Puts r (span_entries (step_e_f x t).closed) out₃ s out₄
      → Puts 0 (entries t (occurred d t set)) out s out₄
  all_put {skips} {p} {q} {r} {s} {out} {out₁} {out₂} {out₃} {out₄} e w y z v =
      subst (λ (l : List RecordEntry). Puts 0 l out s out₄) (sym (in_order skips e))
      (both 0 _ _ out p out₁ s out₄ w (both p _ _ out₁ q out₂ s out₄ y (both q _ _ out₂ r out₃ s out₄ z v)))

-- ---- where the state is kept: the steps one behind the other

module _ {kt ko ka kb kx kf kg : Kept} {bb bx bf : Beside} {fates : ReleaseFates} {soon pass skips held p q r s : ℕ} {out out₁ out₂ out₃ out₄ : List ℕ}
    (k : Kept) (b : Beside) (t set : ℕ) where
  pub composed : TooSoonAt t set k.sets b.columns b.by_task.release b.by_task.waits soon
      → Becomes (λ d. at_clock d t) k b kt b
      → CopyOutPut t kt ko b out p out₁
      → Becomes (λ d. (step_a d t d.phase).state) ko b ka b
      → TestPut (step_f (read ka b) t) kb bb p out₁ q out₂
      → pass ≡ difference set soon
      → fates ≡ released (get_or kb.sets 1 0) (get_or kb.sets 5 0) pass
      → skips ≡ union soon fates.skipped
      → Puts q (skipped_entries 32 skips t) out₂ r out₃
      → HeldOverAt kb.codes fates.taken held
      → Becomes (λ d. steps_c_d d t fates.taken fates.deferred) kb bb kx bx
      → TestPut (step_e_f (read kx bx) t) kf bf r out₃ s out₄
      → Becomes (λ d. step_g d t held d.phase) kf bf kg bf
      → Steps t set k b out s kg bf out₄
  unfolding state_in taken deferred skipped
  composed soons stamps outs ends tests passes takes skip skips holds moves second begins =
      let fate : (which : ReleaseFates → ℕ) → which fates ≡ which (released (get_or kb.sets 1 0) (get_or kb.sets 5 0) (difference set soon)) =
      λ which. ap which (takes ∙ ap (released (get_or kb.sets 1 0) (get_or kb.sets 5 0)) passes) in
      let h : Left (read k b) t set soon fates.taken fates.deferred held (read kt b) (read ka b) (read kb bb) (read kx bx) (read kf bf) (read kg bf) =
      record {
        soon_is = soons k.times k.codes b.priority b.by_task.blocked;
        timed_is = stamps.state;
        a_is = ends.state ∙ outs.copies.state;
        b_is = tests.state;
        taken_is = fate (λ z. z.taken);
        deferred_is = fate (λ z. z.deferred);
        held_is = holds kb.times
            kb.sets;
        x_is = moves.state;
        f_is = second.state;
        g_is = begins.state;
      } in
      record {
        state = left (read k b) t set h;
        puts = all_put (read k b) t set h (skip ∙ ap (union soon) (fate (λ z. z.skipped))) outs.puts tests.puts skips second.puts;
      }

-- an instant that is not the last tick, with the releases that were gathered for it
module _ (rest : List ℕ) (t : ℕ) (g : Batch) (size : ℕ) (k : Kept) (b : Beside) (out : List ℕ) {k' : Kept} {b' : Beside} {out' : List ℕ} where
  pub advanced : Stands t (sooner (first_time (releases_at rest 0)) (due (read k b).phase)) → (t ≡ 2 ^ 64 - 1 → ⊥) → Gathered rest t g
      → Steps t g.set k b out size k' b' out'
      → Advances rest k b out (record { time = t; read = g.read; size = size }) k' b' out'
  advanced next goes gathered steps = record {
    time_is = next;
    ended = λ e. absurd (goes e);
    made = λ e. record {
      gathered = (g, refl, gathered);
      steps = subst (λ (i : ℕ). Steps t i k b out size k' b' out') gathered.set_is steps;
    };
  }

-- ---- what a step leaves at most

module _ (e : RecordEntry) where
  one_most : (n : ℕ) → record_entry_size (Ok e) ≤ n → length (each entry_bytes (e ∷ [])) ≤ n
  one_most n l = omega (arith, ap length (each_one entry_bytes e), entry_size e)

done_most : (o : Option JobEntry) → length (each entry_bytes (done_entries o)) ≤ 27
unfolding each
done_most None = omega arith
done_most (Some e) = one_most (JobDone e) 27 (omega arith)

span_most : (c : Closed) → length (each entry_bytes (span_entries c)) ≤ 24
unfolding each
span_most NoInterval = omega arith
span_most (Span e) = one_most (IntervalEnded e) 24 (omega arith)

pub job_most : {t : ℕ} {k k' : Kept} {b : Beside} {out : List ℕ} {place : ℕ} {out' : List ℕ} → CopyOutPut t k k' b out place out' → place ≤ 27
job_most {t} {k} {k'} {b} x = omega (arith, x.puts.place_is, done_most (step_a (read k b) t (read k b).phase).done)

pub span_place : {after : Stage} {k : Kept} {b : Beside} {at : ℕ} {out : List ℕ} {place : ℕ} {out' : List ℕ} → TestPut after k b at out place out' → place ≤ at + 24
span_place {after} x = omega (arith, x.puts.place_is, span_most after.closed)

-- ---- what an instant leaves at most

closed_most : (c : Closing) (skips : List RecordEntry) → length (each entry_bytes (closed_entries c skips)) ≤ 24 + length (each entry_bytes skips)
unfolding each
closed_most Unclosed skips = omega arith
closed_most (BeforeReleases e) skips = omega (arith, entry_size (IntervalEnded e), length-append (interval_bytes e) (each entry_bytes skips))
closed_most (AfterReleases e) skips =
    omega (
      arith,
      ap length (each_both entry_bytes skips (IntervalEnded e ∷ [])),
      length-append (each entry_bytes skips) (each entry_bytes (IntervalEnded e ∷ [])),
      one_most (IntervalEnded e) 24 (omega arith),
    )

pub moment_most : (t : ℕ) (o : Occurred) → length (each entry_bytes (entries t o)) ≤ 371
unfolding entries
moment_most t o =
    let skips : List RecordEntry = skipped_entries 32 o.skipped t in
    omega (
      arith,
      ap length (each_both entry_bytes (done_entries o.done) (closed_entries o.closed skips)),
      length-append (each entry_bytes (done_entries o.done)) (each entry_bytes (closed_entries o.closed skips)),
      done_most o.done,
      closed_most o.closed skips,
      skips_most 32 o.skipped t,
    )
