-- A run in pieces: what each instant leaves goes on with the piece. Assumes nothing.
use mathlib.Core.Path.{◌≡◌, refl, sym, ap, ap₂, ◌∙◌, subst}
use mathlib.Core.Bool.{true, false, true≢false}
use mathlib.Core.List.{List, [], ◌∷◌, ◌++◌, append_assoc, append-nil}
use mathlib.Core.Logic.{◌⊎◌, ⊎_elim}
use Prim.Native.Nat.{ℕ, suc, ◌+◌, ◌-◌, ◌*◌, ◌^◌, ◌≤◌, ◌<◌}
use native.Mathlib.Nat.{zero-add}
use native.Mathlib.Omega.{arith}
use lib.ListN.{length, take, drop, length-append, length-drop}
use lib.Seq.{take_at}
use Rattle.sets.proofs.Laws.{by-test}
use Rattle.words.proofs.Laws.{rest_whole}
use Rattle.entries.specs.Entries.{laid, entry_bytes, each}
use Rattle.entries.specs.Limits.{instant_most}
use Rattle.entries.proofs.Each.{each_both}
use Rattle.rules.specs.Instant.{at_g}
use Rattle.rules.specs.Entries.{entries}
use Rattle.rules.specs.Steps.{Stands}
use Rattle.rules.specs.Kept.{Kept, kept, by_task, Beside, read}
use Rattle.dispatcher.specs.Dispatcher.{kept_of, beside_of, state_of}
use Rattle.run.specs.Types.{Release, RecordEntry, State, Some}
use Rattle.run.specs.declared.Advanced.{Advanced}
use Rattle.dispatcher.specs.declared.Dispatcher.{Dispatcher}
use Rattle.pieces.specs.declared.Piece.{Piece}
use Rattle.run.specs.Listed.{releases_at}
use Rattle.run.specs.Run.{Moment, released_at, released_after, next_time, moment, run, record_entries, record_bytes}
use Rattle.run.specs.Advance.{Advances, Made, Steps}
use Rattle.pieces.specs.Pieces.{Leads, Makes}
use Rattle.run.proofs.Listing.{in_part, behind_part}
use Rattle.run.proofs.Slices.{laid_none, laid_both, laid_length, rest_laid, rest_length, put_all_length}
use Rattle.run.proofs.InOrder.{moment_most}
use Rattle.run.proofs.Advancing.{with_set}

-- ---- moments one behind the other

pub entries_both : (ms ns : List Moment) → record_entries (ms ++ ns) ≡ record_entries ms ++ record_entries ns
unfolding record_entries
entries_both [] ns = refl
entries_both (m ∷ ms) ns =
    let first : List RecordEntry = entries m.time m.occurred in
    ap (λ (x : List RecordEntry). first ++ x) (entries_both ms ns) ∙ sym (append_assoc first (record_entries ms) (record_entries ns))

pub bytes_both : (ms ns : List Moment) → record_bytes (ms ++ ns) ≡ record_bytes ms ++ record_bytes ns
unfolding record_bytes
bytes_both ms ns = ap (each entry_bytes) (entries_both ms ns) ∙ each_both entry_bytes (record_entries ms) (record_entries ns)

abbrev moment_bytes : Moment → List ℕ
moment_bytes m = each entry_bytes (entries m.time m.occurred)

bytes_one : (m : Moment) → record_bytes (m ∷ []) ≡ moment_bytes m
unfolding record_bytes record_entries
bytes_one m = ap (each entry_bytes) (append-nil (entries m.time m.occurred))

-- what so many moments leave at most
pub bytes_most : (ms : List Moment) → length (record_bytes ms) ≤ instant_most * length ms
unfolding record_bytes record_entries each
bytes_most [] = omega arith
bytes_most (m ∷ ms) =
    omega (
      arith,
      bytes_most ms,
      moment_most m.time m.occurred,
      ap length (bytes_both (m ∷ []) ms),
      ap length (bytes_one m),
      length-append (record_bytes (m ∷ [])) (record_bytes ms),
    )

pub one_more : (d : State) (rs : List Release) (ms : List Moment) (e : State) (es : List Release) (t : ℕ) {d' : State} {rs' : List Release} → Leads d rs ms e es
    → next_time e es ≡ Some t → at_g e t (released_at t es) ≡ d' → released_after t es ≡ rs' → Leads d rs (ms ++ (moment e t (released_at t es) ∷ [])) d' rs'
unfolding Leads
one_more d rs [] e es t {d'} {rs'} h n x y =
    subst (λ (z : State). Leads z rs (moment e t (released_at t es) ∷ []) d' rs') (sym h.0)
    (subst (λ (z : List Release). Leads e z (moment e t (released_at t es) ∷ []) d' rs') (sym h.1) (n, refl, (x, y)))
one_more d rs (m ∷ ms) e es t h n x y = (h.0, h.1, one_more m.state (released_after m.time rs) ms e es t h.2 n x y)

-- moments that were made, and then the run from where they lead
pub along : (d : State) (rs : List Release) (ms : List Moment) (d' : State) (rs' : List Release) → Leads d rs ms d' rs' → (k : ℕ) → run (k + length ms) d rs ≡ ms ++ run k d' rs'
unfolding Leads
along d rs [] d' rs' h k = ap (λ (n : ℕ). run n d rs) none ∙ ap₂ (run k) h.0 h.1
  where
    none : k + 0 ≡ k
    none = omega arith
along d rs (m ∷ ms) d' rs' h k =
    ap (λ (n : ℕ). run n d rs) more ∙ first (k + length ms) h.0
    ∙ ap₂ (λ (a : Moment) (l : List Moment). a ∷ l) (sym h.1)
    (ap (λ (a : Moment). run (k + length ms) a.state (released_after m.time rs)) (sym h.1) ∙ along m.state (released_after m.time rs) ms d' rs' h.2 k)
  where
    more : k + length (m ∷ ms) ≡ suc (k + length ms)
    more = omega arith

    first : (n : ℕ) → next_time d rs ≡ Some m.time
        → run (suc n) d rs ≡ moment d m.time (released_at m.time rs) ∷ run n (at_g d m.time (released_at m.time rs)) (released_after m.time rs)
    first n e = unfold run in rw (e, run)

-- ---- one instant, with the releases from a place of the input on

module _ (rest : List ℕ) (at : ℕ) {k : Kept} {b : Beside} {out : List ℕ} {x : Advanced} {k' : Kept} {b' : Beside} {out' : List ℕ}
    (made : Advances (take (length rest - at) (drop at rest)) k b out x k' b' out') where
  next_is : Stands x.time (next_time (read k b) (releases_at rest at))
  next_is = subst (λ (rs : List Release). Stands x.time (next_time (read k b) rs)) (in_part rest at) made.time_is

  -- the last tick stands for none
  pub none_before : x.time ≡ 2 ^ 64 - 1 → Stands (2 ^ 64 - 1) (next_time (read k b) (releases_at rest at))
  none_before e = subst (λ (n : ℕ). Stands n (next_time (read k b) (releases_at rest at))) e next_is

  module _ (on : x.time ≡ 2 ^ 64 - 1 → ⊥) where
    abbrev step : Made (take (length rest - at) (drop at rest)) k b out x k' b' out'
    step = made.made on

    pub steps_made : Steps x.time (released_at x.time (releases_at rest at)) k b out x.size k' b' out'
    steps_made = with_set (ap (released_at x.time) (in_part rest at)) step.steps

    pub next_made : next_time (read k b) (releases_at rest at) ≡ Some x.time
    next_made = ⊎_elim (λ e. e) (λ z. absurd (on z.0)) next_is.is

    pub behind_made : released_after x.time (releases_at rest at) ≡ releases_at rest (at + x.read)
    behind_made =
        sym (sym (behind_part rest at x.read)
        ∙ ap (releases_at (take (length rest - at) (drop at rest))) (sym step.gathered.1)
        ∙ step.gathered.2.after ∙ ap (released_after x.time) (in_part rest at))

    pub reads_within : at ≤ length rest → at + x.read ≤ length rest
    reads_within l = omega (arith, l, step.gathered.1, step.gathered.2.within, ap length (rest_whole at rest), length-drop at rest)

    -- so it leads from one state to the next
    pub leads_on : Leads (read k b) (releases_at rest at) (moment (read k b) x.time (released_at x.time (releases_at rest at)) ∷ []) (read k' b') (releases_at rest (at + x.read))
    unfolding Leads
    leads_on = (next_made, refl, (sym steps_made.state, behind_made))

-- ---- how far a piece has come

pub record Reached (rest : List ℕ) (d : State) (budget : ℕ) (before : List ℕ) (k : Kept) (b : Beside) (at size left : ℕ) (out : List ℕ) : Type 0 where
  pub moments : List Moment
  pub leads : Leads d (releases_at rest 0) moments (read k b) (releases_at rest at)
  pub within : at ≤ length rest
  pub left_is : left + length moments ≡ budget
  pub size_is : size ≡ length (record_bytes moments)
  pub fits : size ≤ length before
  pub holds : out ≡ laid 0 (record_bytes moments) before
  pub same : length out ≡ length before

pub begins : (rest : List ℕ) (budget : ℕ) (out : List ℕ) (k : Kept) (b : Beside) → Reached rest (read k b) budget out k b 0 0 budget out
unfolding Leads record_bytes record_entries each
begins rest budget out k b = record {
  moments = [];
  leads = (refl, refl);
  within = omega arith;
  left_is = omega arith;
  size_is = refl;
  fits = omega arith;
  holds = sym (laid_none 0 out);
  same = refl;
}

module _ {rest : List ℕ} {d : State} {budget : ℕ} {before : List ℕ} {k : Kept} {b : Beside} {at size left : ℕ} {out : List ℕ}
    (g : Reached rest d budget before k b at size left out) where
  module _ {x : Advanced} {k' : Kept} {b' : Beside} {rest-after : List ℕ}
      (made : Advances (take (length rest - at) (drop at rest)) k b (take (length out - size) (drop size out)) x k' b' rest-after) where
    pub at_last : x.time ≡ 2 ^ 64 - 1 → Stands (2 ^ 64 - 1) (next_time (read k b) (releases_at rest at))
    at_last e = none_before rest at made e

    module _ (on : x.time ≡ 2 ^ 64 - 1 → ⊥) where
      abbrev t : ℕ
      t = x.time

      steps : Steps x.time (released_at x.time (releases_at rest at)) k b (take (length out - size) (drop size out)) x.size k' b' rest-after
      steps = steps_made rest at made on

      pub reads : at + x.read ≤ length rest
      reads = reads_within rest at made on g.within

      abbrev next : Moment
      next = moment (read k b) x.time (released_at x.time (releases_at rest at))

      size_is : x.size ≡ length (moment_bytes (moment (read k b) x.time (released_at x.time (releases_at rest at))))
      size_is = steps.puts.place_is ∙ omega arith

      small : x.size ≤ instant_most
      small = omega (arith, size_is, moment_most x.time next.occurred)

      pub puts : instant_most ≤ length out - size → size + x.size ≤ length out
      puts room = omega (arith, small, g.fits, g.same)

      -- what the instant leaves is laid behind what was laid before
      pub moves : {out' : List ℕ} → (left ≡ 0 → ⊥) → instant_most ≤ length out - size
          → out' ≡ take size out ++ (rest-after ++ drop (length out - size) (drop size out))
          → Reached rest d budget before k' b' (at + x.read) (size + x.size) (left - 1) out'
      moves {out'} some room e =
          let es : List RecordEntry = entries x.time next.occurred in
          let few : length (each entry_bytes es) ≤ instant_most = moment_most x.time next.occurred in
          let done : List ℕ = record_bytes g.moments in
          let bytes : List ℕ = moment_bytes next in
          let all : record_bytes (g.moments ++ (next ∷ [])) ≡ done ++ bytes = bytes_both g.moments (next ∷ []) ∙ ap (λ (z : List ℕ). done ++ z) (bytes_one next) in
          record {
            moments = g.moments ++ (next ∷ []);
            leads = one_more d (releases_at rest 0) g.moments (read k b) (releases_at rest at) t g.leads (next_made rest at made on) (sym steps.state) (behind_made rest at made on);
            within = reads;
            left_is = omega (arith, g.left_is, length-append g.moments (next ∷ []));
            size_is = ap₂ (λ (i j : ℕ). i + j) g.size_is size_is ∙ sym (ap length all ∙ length-append done bytes);
            fits = omega (arith, puts room, g.same);
            holds =
                e
                ∙ rest_laid es size out rest-after steps.puts.holds (omega (arith, g.fits, g.same))
                ∙ ap (λ (n : ℕ). laid n bytes out) (g.size_is ∙ sym (zero-add (length done)))
                ∙ ap (laid (0 + length done) bytes) g.holds
                ∙ laid_both 0 done bytes before (omega arith)
                ∙ ap (λ (z : List ℕ). laid 0 z before) (sym all);
            same = ap length e ∙ rest_length size out rest-after (ap length steps.puts.holds ∙ put_all_length 0 es (take (length out - size) (drop size out))) ∙ g.same;
          }

-- ---- where it stops

pub same_kept : {times sets codes times' sets' codes' : List ℕ} → times ≡ times' → sets ≡ sets' → codes ≡ codes' → kept times sets codes ≡ kept times' sets' codes'
same_kept {times} {sets} {codes} {times'} {sets'} {codes'} x y z = ap (λ (l : List ℕ). kept l sets codes) x ∙ ap (λ (l : List ℕ). kept times' l codes) y ∙ ap (kept times' sets') z

pub same_by_task : {release blocked waits release' blocked' waits' : List ℕ} → release ≡ release' → blocked ≡ blocked' → waits ≡ waits' → by_task release blocked waits ≡ by_task release' blocked' waits'
same_by_task {release} {blocked} {waits} {release'} {blocked'} {waits'} x y z =
    ap (λ (l : List ℕ). by_task l blocked waits) x ∙ ap (λ (l : List ℕ). by_task release' l waits) y ∙ ap (by_task release' blocked') z

-- the state that it leaves is the one that was reached
state_is : (x : Dispatcher) {k : Kept} {b : Beside} → kept_of x ≡ k → beside_of x ≡ b → state_of x ≡ read k b
state_is x ek eb = ap₂ (λ (u : Kept) (v : Beside). read u v) ek eb

in_state : (d : State) (rs : List Release) (ms : List Moment) {e d' : State} (rs' : List Release) → d' ≡ e → Leads d rs ms e rs' → Leads d rs ms d' rs'
in_state d rs ms {e} {d'} rs' h l = subst (λ (z : State). Leads d rs ms z rs') (sym h) l

module _ {rest : List ℕ} (d : Dispatcher) {budget : ℕ} {before : List ℕ} {k : Kept} {b : Beside} {left : ℕ} {out : List ℕ} {x : Piece} {out' : List ℕ}
    (g : Reached rest (state_of d) budget before k b x.read x.size left out)
    (ek : kept_of x.state ≡ k) (eb : beside_of x.state ≡ b) (eo : out' ≡ out) where
  -- the piece that is made there, with what is said of the end and of the budget
  makes : (x.ended ≡ true → (x.left ≡ 0) × Stands (2 ^ 64 - 1) (next_time (state_of x.state) (releases_at rest x.read)))
      → (x.ended ≡ false → (x.left ≡ 0) ⊎ (length before < x.size + instant_most))
      → (x.ended ≡ false → x.left + length g.moments ≡ budget)
      → x.left + length g.moments ≤ budget → Makes rest d budget before x out'
  makes ended_is stopped left_is few = record {
    moments = g.moments;
    leads = in_state (state_of d) (releases_at rest 0) g.moments (releases_at rest x.read) (state_is x.state ek eb) g.leads;
    goes_on = along (state_of d) (releases_at rest 0) g.moments (state_of x.state) (releases_at rest x.read)
        (in_state (state_of d) (releases_at rest 0) g.moments (releases_at rest x.read) (state_is x.state ek eb) g.leads);
    within = g.within;
    size_is = g.size_is;
    fits = g.fits;
    holds = eo ∙ g.holds;
    ended_is = ended_is;
    stopped = stopped;
    left_is = left_is;
    few = few;
  }

  -- at the run's end
  pub ends : x.ended ≡ true → x.left ≡ 0 → Stands (2 ^ 64 - 1) (next_time (read k b) (releases_at rest x.read)) → Makes rest d budget before x out'
  ends e none last =
      makes
      (λ h. (none, subst (λ (z : State). Stands (2 ^ 64 - 1) (next_time z (releases_at rest x.read))) (sym (state_is x.state ek eb)) last))
      (λ h. absurd (true≢false (sym e ∙ h))) (λ h. absurd (true≢false (sym e ∙ h))) (omega (arith, none, g.left_is))

  -- or before it
  pub stops : x.ended ≡ false → x.left ≡ left → (x.left ≡ 0) ⊎ (length before < x.size + instant_most) → Makes rest d budget before x out'
  stops e same why =
      makes (λ h. absurd (true≢false (sym h ∙ e))) (λ h. why) (λ h. ap (λ (n : ℕ). n + length g.moments) same ∙ g.left_is) (omega (arith, same, g.left_is))

-- ---- what whoever makes pieces may rely on

module _ {rest : List ℕ} {d : Dispatcher} {budget : ℕ} {out : List ℕ} {x : Piece} {out' : List ℕ} (m : Makes rest d budget out x out') where
  -- a piece moves on, where there is room for an instant
  pub moves_on : (budget ≡ 0 → ⊥) → instant_most ≤ length out → x.left < budget
  moves_on some room = by-test x.ended (λ h. omega (arith, (m.ended_is h).0, some_is)) (λ h. ⊎_elim
      (λ e. omega (arith, e, some_is))
      (λ l. omega (arith, m.left_is h, l, m.size_is, bytes_most m.moments))
      (m.stopped h))
    where
      some_is : 0 < budget
      some_is = omega arith

  -- what it leaves can be counted
  pub grows : x.size + instant_most * x.left ≤ instant_most * budget
  grows = omega (arith, m.few, m.size_is, bytes_most m.moments)

  -- the slice keeps its length, and has the piece's bytes in its front
  pub same_slice : length out' ≡ length out
  same_slice = ap length m.holds ∙ laid_length 0 (record_bytes m.moments) out (omega (arith, m.fits, m.size_is))

  pub front : take x.size out' ≡ record_bytes m.moments
  front = ap (take x.size) m.holds ∙ take_at (record_bytes m.moments) (drop (0 + length (record_bytes m.moments)) out) x.size (sym m.size_is)

-- of the rest of an input it reads no more than there is
pub reads_on : (s : List ℕ) (at : ℕ) {d : Dispatcher} {budget : ℕ} {out : List ℕ} {x : Piece} {out' : List ℕ} → Makes (take (length s - at) (drop at s)) d budget out x out' → at ≤ length s
    → at + x.read ≤ length s
reads_on s at m l = omega (arith, m.within, ap length (rest_whole at s), length-drop at s)
