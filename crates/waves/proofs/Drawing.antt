-- A dump along its run: what is put so far and what is to come make the whole. Assumes nothing.
use mathlib.Core.Path.{◌≡◌, refl, sym, ap, ap₂, ◌∙◌, subst}
use mathlib.Core.Bool.{Bool, true, false, true≢false}
use mathlib.Core.List.{List, [], ◌∷◌, ◌++◌, append_assoc, append-nil}
use Prim.Native.Nat.{ℕ, ◌+◌, ◌-◌, ◌*◌, ◌^◌, ◌≤◌, ◌<◌}
use native.Mathlib.Omega.{arith}
use borrow.Author.Tests.{eqb-true, eq-eqb, ne_eqb}
use lib.Dec.{eqb}
use lib.ListN.{length, take, drop, length-append}
use Rattle.sets.proofs.Laws.{by-test}
use Rattle.entries.specs.Entries.{laid}
use Rattle.rules.specs.Instant.{at_g}
use Rattle.rules.specs.Kept.{Kept, Beside, read}
use Rattle.run.specs.Types.{State}
use Rattle.run.specs.declared.Advanced.{Advanced}
use Rattle.run.specs.Listed.{releases_at}
use Rattle.run.specs.Run.{Moment, released_at, run}
use Rattle.run.specs.Advance.{Advances}
use Rattle.run.proofs.Slices.{laid_none, laid_both}
use Rattle.pieces.proofs.Reaching.{along, none_before, next_made, steps_made, reads_within, leads_on}
use Rattle.record.specs.Cursor.{Cursor, Served, KeptAt}
use Rattle.record.proofs.Running.{fed, behind, comes_early, none_left, over}
use Rattle.waves.specs.Types.{Shown}
use Rattle.waves.specs.Dump.{Sample, header, wires, wire, mark, all, if_new, changed, same, change, changes, dump}
use Rattle.waves.specs.Samples.{seen, samples, from_zero}
use Rattle.waves.specs.Drawing.{start, turn, rest_of, run_rest, Space, Drew}
use Rattle.waves.proofs.Seeing.{small_half}
use Rattle.waves.proofs.Laying.{mark_most, new_most, new_wire_most}

-- ---- the whole dump

rest_begun : (v : Shown) (ss : List Sample) → rest_of true v ss ≡ changes v ss
unfolding rest_of turn changes
rest_begun v [] = refl
rest_begun v (s ∷ ss) = ap (λ (l : List ℕ). change v s ++ l) (rest_begun s.shown ss)

pub whole_dump : (v : Shown) (ss : List Sample) → dump (from_zero v ss) ≡ header ++ rest_of false v ss
unfolding dump rest_of turn changes
whole_dump v [] = ap (λ (l : List ℕ). header ++ l) (append-nil (start v))
whole_dump v (s ∷ ss) =
    by-test (eqb s.time 0)
    (λ e. rw e (ap₂ (λ (t : ℕ) (l : List ℕ). header ++ ((mark t ++ all s.shown) ++ l)) (eqb-true s.time 0 e) (sym (rest_begun s.shown ss))))
    (λ e. rw e
    (ap (λ (l : List ℕ). header ++ l)
    (sym (append_assoc (start v) (change v s) (changes s.shown ss)) ∙ ap (λ (l : List ℕ). (start v ++ change v s) ++ l) (sym (rest_begun s.shown ss)))))

-- ---- what a sample adds, case by case

pub adds_change : (begun : Bool) (v : Shown) (s : Sample) → begun ≡ true → turn begun v s ≡ change v s
unfolding turn
adds_change begun v s e = rw e

pub adds_start : (begun : Bool) (v : Shown) (s : Sample) → begun ≡ false → s.time ≡ 0 → turn begun v s ≡ start s.shown
unfolding turn
adds_start begun v s e z = rw (e, eq-eqb s.time 0 z)

pub adds_both : (begun : Bool) (v : Shown) (s : Sample) → begun ≡ false → (s.time ≡ 0 → ⊥) → turn begun v s ≡ start v ++ change v s
unfolding turn
adds_both begun v s e z = rw (e, ne_eqb s.time 0 z)

-- ---- how long it gets

pub start_most : (w : Shown) → length (start w) ≤ 61
unfolding all wires wire
start_most w = omega (arith, mark_most 0 (omega arith), length-append (mark 0) (all w))

pub change_most : (v : Shown) (t : ℕ) (w : Shown) → t < 10 ^ 20 → length (change v (record { time = t; shown = w })) ≤ 61
unfolding change changed
change_most v t w h =
    let a : List ℕ = if_new v.processor w.processor (wires 97 w.processor) in
    let b : List ℕ = if_new v.copyin w.copyin (wires 98 w.copyin) in
    let c : List ℕ = if_new v.copyout w.copyout (wires 99 w.copyout) in
    let d : List ℕ = if_new v.half w.half (wire 100 w.half) in
    by-test (same v w) (λ e. rw e (omega arith))
    (λ e. rw e
    (omega (
      arith,
      mark_most t h,
      length-append (mark t) (a ++ (b ++ (c ++ d))),
      length-append a (b ++ (c ++ d)),
      length-append b (c ++ d),
      length-append c d,
      new_most v.processor w.processor 97,
      new_most v.copyin w.copyin 98,
      new_most v.copyout w.copyout 99,
      new_wire_most v.half w.half 100,
    )))

pub turn_most : (begun : Bool) (v : Shown) (t : ℕ) (w : Shown) → t < 10 ^ 20 → length (turn begun v (record { time = t; shown = w })) ≤ 122
unfolding turn
turn_most true v t w h = omega (arith, change_most v t w h)
turn_most false v t w h =
    by-test (eqb t 0) (λ e. rw e (omega (arith, start_most w)))
    (λ e. rw e (omega (arith, start_most v, change_most v t w h, length-append (start v) (change v (record { time = t; shown = w })))))

-- ---- how far it has come, from a place of the slice on

pub record Drawing (s whole before : List ℕ) (first : Shown) (place : ℕ) (keep : Bool) (d : State) (at : ℕ) (v : Shown) (begun : Bool) (size left : ℕ) (out : List ℕ) : Type 0 where
  pub done : List ℕ
  pub size_is : size ≡ place + length done
  pub rest : done ++ rest_of begun v (samples (run left d (releases_at s at))) ≡ whole
  pub kept : keep ≡ true → out ≡ laid place done before
  pub unchanged : keep ≡ false → out ≡ before
  pub same_out : length out ≡ length before
  pub few : size + 122 * left ≤ 122 * 131104 + 1000
  pub served : Served s (record { state = d; at = at })
  pub seen_is : v ≡ seen d
  pub fresh : begun ≡ false → v ≡ first

pub begins : (s out : List ℕ) (place : ℕ) (keep : Bool) (d : State) (at : ℕ) (v : Shown) (budget : ℕ)
    → Space s (record { state = d; at = at }) budget (run_rest s (record { state = d; at = at }) budget) out place keep → v ≡ seen d
    → Drawing s (run_rest s (record { state = d; at = at }) budget) out (seen d) place keep d at v false place budget out
begins s out place keep d at v budget r e = record {
  done = [];
  size_is = omega arith;
  rest = ap (λ (w : Shown). rest_of false w (samples (run budget d (releases_at s at)))) e;
  kept = λ k. sym (laid_none place out);
  unchanged = λ k. refl;
  same_out = refl;
  few = omega (arith, r.few, r.near);
  served = r.served;
  seen_is = e;
  fresh = λ h. e;
}

half_of : (v : Shown) (d : State) → v ≡ seen d → v.half ≤ 1
half_of v d e = subst (λ (u : Shown). u.half ≤ 1) (sym e) (small_half d)

-- where no instant is left
module _ {s before : List ℕ} {c : Cursor} {budget place : ℕ} {keep : Bool} {d : State} {at : ℕ} {v : Shown} {begun : Bool} {size left : ℕ} {out : List ℕ}
    (p : Drawing s (run_rest s c budget) before (seen c.state) place keep d at v begun size left out) where
  pub ends : run left d (releases_at s at) ≡ [] → Drew s c budget before place keep (record { size = size; begun = begun }) out
  unfolding samples rest_of
  ends e = record {
    done = p.done;
    whole =
        ap (λ (l : List ℕ). p.done ++ l) (by-test begun (λ h. rw h) (λ h. rw h (ap start (sym (p.fresh h)))))
        ∙ ap (λ (ms : List Moment). p.done ++ rest_of begun v (samples ms)) (sym e) ∙ p.rest;
    size_is = p.size_is;
    small = omega (arith, p.few);
    holds = p.kept;
    unchanged = p.unchanged;
  }

  pub spent : left ≡ 0 → Drew s c budget before place keep (record { size = size; begun = begun }) out
  unfolding run
  spent e = ends (ap (λ (n : ℕ). run n d (releases_at s at)) e)

module _ {s whole before : List ℕ} {first : Shown} {place : ℕ} {keep : Bool} {k : Kept} {b : Beside} {at : ℕ} {v : Shown} {begun : Bool} {size left : ℕ} {out : List ℕ}
    (p : Drawing s whole before first place keep (read k b) at v begun size left out)
    {none : List ℕ} {x : Advanced} {k' : Kept} {b' : Beside} {none' : List ℕ} (made : Advances (take (length s - at) (drop at s)) k b none x k' b' none') where
  -- no instant is left
  pub at_the_end : x.time ≡ 2 ^ 64 - 1 → run left (read k b) (releases_at s at) ≡ []
  at_the_end e = over left (read k b) (releases_at s at) (none_left (read k b) (releases_at s at) (fed p.served) (none_before s at made e))

  pub half_before : v.half ≤ 1
  half_before = half_of v (read k b) p.seen_is

  pub half_now : (w : Shown) → ((b : Beside) → w ≡ seen (read k' b)) → w.half ≤ 1
  half_now w sees = half_of w (read k' b') (sees b')

  module _ (on : x.time ≡ 2 ^ 64 - 1 → ⊥) where
    pub in_time : x.time ≤ 3000000000
    in_time = comes_early (read k b) (releases_at s at) (fed p.served) x.time (next_made s at made on)

    pub reads_on : at + x.read ≤ length s
    reads_on = reads_within s at made on p.served.within

    served_on : Served s (record { state = read k' b'; at = at + x.read })
    served_on =
        let f = behind (read k b) (releases_at s at) _ (read k' b') (releases_at s (at + x.read)) (leads_on s at made on) (fed p.served) in
        record { within = reads_on; calls = f.calls; feeds = f.feeds; all_served = f.all_served; early = f.early }

    module _ (w : Shown) (sees : (b : Beside) → w ≡ seen (read k' b)) (some : left ≡ 0 → ⊥) where
      abbrev added : List ℕ
      added = turn begun v (record { time = x.time; shown = w })

      abbrev rest_left : List ℕ
      rest_left = rest_of true w (samples (run (left - 1) (read k' b') (releases_at s (at + x.read))))

      pub short : length (turn begun v (record { time = x.time; shown = w })) ≤ 122
      short = turn_most begun v x.time w (omega (arith, in_time))

      shows : w ≡ seen (at_g (read k b) x.time (released_at x.time (releases_at s at)))
      shows = sees b' ∙ ap seen (steps_made s at made on).state

      splits : rest_of begun v (samples (run left (read k b) (releases_at s at)))
          ≡ turn begun v (record { time = x.time; shown = w }) ++ rest_of true w (samples (run (left - 1) (read k' b') (releases_at s (at + x.read))))
      unfolding samples rest_of
      splits =
          let one : left ≡ left - 1 + 1 = omega arith in
          ap (λ (n : ℕ). rest_of begun v (samples (run n (read k b) (releases_at s at)))) one
          ∙ ap (λ (ms : List Moment). rest_of begun v (samples ms)) (along (read k b) (releases_at s at) _ (read k' b') (releases_at s (at + x.read)) (leads_on s at made on) (left - 1))
          ∙ ap (λ (u : Shown). turn begun v (record { time = x.time; shown = u }) ++ rest_of true u (samples (run (left - 1) (read k' b') (releases_at s (at + x.read))))) (sym shows)

      parts : p.done ++ (turn begun v (record { time = x.time; shown = w }) ++ rest_of true w (samples (run (left - 1) (read k' b') (releases_at s (at + x.read))))) ≡ whole
      parts = ap (λ (l : List ℕ). p.done ++ l) (sym splits) ∙ p.rest

      -- there is room for what the instant adds
      pub room : (keep ≡ true → place + length whole ≤ length before) → keep ≡ true → size + length (turn begun v (record { time = x.time; shown = w })) ≤ length out
      room r h =
          omega (
            arith,
            r h,
            p.size_is,
            p.same_out,
            ap length parts,
            length-append p.done (added ++ rest_left),
            length-append added rest_left,
          )

      pub moves : {out' : List ℕ} (size' : ℕ) → size' ≡ size + length (turn begun v (record { time = x.time; shown = w }))
          → (keep ≡ true → place + length whole ≤ length before) → KeptAt (turn begun v (record { time = x.time; shown = w })) out size keep out'
          → length out' ≡ length out → Drawing s whole before first place keep (read k' b') (at + x.read) w true size' (left - 1) out'
      moves {out'} size' e r put same = record {
        done = p.done ++ added;
        size_is = omega (arith, e, p.size_is, length-append p.done added);
        rest = append_assoc p.done added rest_left ∙ parts;
        kept = λ h.
            put.holds h ∙ ap (λ (i : ℕ). laid i added out) p.size_is ∙ ap (laid (place + length p.done) added) (p.kept h)
            ∙ laid_both place p.done added before (omega (arith, r h));
        unchanged = λ h. put.unchanged h ∙ p.unchanged h;
        same_out = same ∙ p.same_out;
        few = omega (arith, e, p.few, short, some_left);
        served = served_on;
        seen_is = sees b';
        fresh = λ h. absurd (true≢false h);
      }
        where
          some_left : 1 ≤ left
          some_left = omega arith
