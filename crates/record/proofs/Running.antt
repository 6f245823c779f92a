-- A run along its pieces: what is laid so far and what is to come make the whole record. Assumes nothing.
use mathlib.Core.Path.{◌≡◌, refl, sym, ap, ap₂, ◌∙◌, subst}
use mathlib.Core.Bool.{Bool, true, false}
use mathlib.Core.List.{List, [], ◌∷◌, ◌++◌, append_assoc, append-nil}
use mathlib.Core.Logic.{⊎_elim}
use Prim.Native.Nat.{ℕ, zero, suc, ◌+◌, ◌-◌, ◌*◌, ◌^◌, ◌≤◌}
use native.Mathlib.Nat.{zero-add}
use native.Mathlib.Omega.{arith}
use lib.ListN.{length, take, drop, length-append}
use Rattle.sets.proofs.Laws.{by-test, clash}
use Rattle.entries.specs.Entries.{laid, each}
use Rattle.entries.specs.Limits as limits
use Rattle.rules.specs.Instant.{at_g}
use Rattle.rules.specs.Calls.{opened, refusal, after_call}
use Rattle.rules.specs.Steps.{Stands}
use Rattle.rules.specs.declared.Call.{Call}
use Rattle.rules.specs.declared.Call.TheVariants.{Instant}
use Rattle.dispatcher.specs.declared.Dispatcher.{Dispatcher}
use Rattle.dispatcher.specs.Dispatcher.{state_of}
use Rattle.record.specs.Types.{Release, Head, State, None, Some, Piece}
use Rattle.run.specs.Listed.{releases_at}
use Rattle.run.specs.Run.{Moment, next_time, record_entries, record_bytes, run, released_at, released_after}
use Rattle.pieces.specs.Pieces.{Leads, Makes}
use Rattle.run.proofs.Listing.{in_part, behind_part}
use Rattle.run.proofs.Slices.{laid_none, laid_both}
use Rattle.pieces.proofs.Reaching.{along, bytes_both, grows, same_slice, reads_on}
use Rattle.record.specs.FileClaim.{Feeds, AllServed}
use Rattle.record.specs.Cursor.{Cursor, start, AllEarly, Served, Room, Ran, RestRoom, RestRan, cursor_of, rest_bytes, run_bytes}
use Rattle.record.proofs.FileClaim.{not_over}

-- ---- no instant of a run is refused, and none is late

pub record Fed (d : State) (rs : List Release) : Type 0 where
  pub calls : List Call
  pub feeds : Feeds d rs calls
  pub all_served : AllServed d calls
  pub early : AllEarly calls

same : (a b : ℕ) → Some a ≡ Some b → a ≡ b
same a b e = cc

module _ (d : State) (rs : List Release) (v : Fed d rs) (t : ℕ) (next : next_time d rs ≡ Some t) where
  is_g : refusal d t (released_at t rs) ≡ 0 → after_call d (Instant t (released_at t rs)) ≡ at_g d t (released_at t rs)
  unfolding after_call
  is_g e = rw (e, after_call)

  one : (cs : List Call) → AllServed d (Instant t (released_at t rs) ∷ cs) → AllEarly cs → Feeds (after_call d (Instant t (released_at t rs))) (released_after t rs) cs
      → (refusal d t (released_at t rs) ≡ 0) × Fed (at_g d t (released_at t rs)) (released_after t rs)
  unfolding AllServed
  one cs g l f = (
    g.1,
    record {
      calls = cs;
      feeds = subst (λ (q : State). Feeds q (released_after t rs) cs) (is_g g.1) f;
      all_served = subst (λ (q : State). AllServed q cs) (is_g g.1) g.2;
      early = l;
    },
  )

  go : (cs : List Call) → Feeds d rs cs → AllServed d cs → AllEarly cs → (refusal d t (released_at t rs) ≡ 0) × Fed (at_g d t (released_at t rs)) (released_after t rs)
  unfolding Feeds AllEarly
  go [] f a l = absurd (not_over d rs t f.0 f.1 next)
  go (x ∷ cs) f a l =
      let u : f.0 ≡ t = same f.0 t (sym f.1 ∙ next) in
      let y : x ≡ Instant t (released_at t rs) = f.2 ∙ ap (λ (w : ℕ). Instant w (released_at w rs)) u in
      one cs (subst (λ (w : Call). AllServed d (w ∷ cs)) y a) (subst (λ (w : Call). AllEarly (w ∷ cs)) y l).1
      (subst (λ (w : Call). Feeds (after_call d w) (released_after t rs) cs) y
      (subst (λ (w : ℕ). Feeds (after_call d x) (released_after w rs) cs) u f.3))

  goes : (refusal d t (released_at t rs) ≡ 0) × Fed (at_g d t (released_at t rs)) (released_after t rs)
  goes = go v.calls v.feeds v.all_served v.early

  go_early : (cs : List Call) → Feeds d rs cs → AllEarly cs → t ≤ limits.last_instant
  unfolding Feeds AllEarly
  go_early [] f l = absurd (not_over d rs t f.0 f.1 next)
  go_early (x ∷ cs) f l = omega (arith, (subst (λ (w : Call). AllEarly (w ∷ cs)) f.2 l).0, same f.0 t (sym f.1 ∙ next))

  pub comes_early : t ≤ limits.last_instant
  comes_early = go_early v.calls v.feeds v.early

-- ---- what is left behind moments that were made

pub over : (k : ℕ) (d : State) (rs : List Release) → next_time d rs ≡ None → run k d rs ≡ []
unfolding run
over zero d rs e = refl
over (suc k) d rs e = rw (e, run)

-- no instant is refused behind them
pub behind : (d : State) (rs : List Release) (ms : List Moment) (d' : State) (rs' : List Release) → Leads d rs ms d' rs' → Fed d rs → Fed d' rs'
unfolding Leads
behind d rs [] d' rs' h v = subst (λ (z : State). Fed z rs') h.0 (subst (λ (z : List Release). Fed d z) h.1 v)
behind d rs (m ∷ ms) d' rs' h v =
    behind m.state (released_after m.time rs) ms d' rs' h.2
    (subst (λ (a : Moment). Fed a.state (released_after m.time rs)) (sym h.1) (goes d rs v m.time h.0).1)

-- no instant is at the last tick: where it stands, nothing is pending any more
pub none_left : (d : State) (rs : List Release) → Fed d rs → Stands (2 ^ 64 - 1) (next_time d rs) → next_time d rs ≡ None
none_left d rs v h = ⊎_elim (λ next. absurd (omega (arith, comes_early d rs v _ next))) (λ z. z.1) h.is

-- ---- a piece of a run

pub fed : {s : List ℕ} {c : Cursor} → Served s c → Fed c.state (releases_at s c.at)
fed v = record { calls = v.calls; feeds = v.feeds; all_served = v.all_served; early = v.early }

module _ (s : List ℕ) (at : ℕ) (d : Dispatcher) {budget : ℕ} {out : List ℕ} {x : Piece} {out' : List ℕ}
    (m : Makes (take (length s - at) (drop at s)) d budget out x out') (v : Served s (record { state = state_of d; at = at })) where
  leads : Leads (state_of d) (releases_at s at) m.moments (state_of x.state) (releases_at s (at + x.read))
  leads =
      subst (λ (rs : List Release). Leads (state_of d) rs m.moments (state_of x.state) (releases_at s (at + x.read))) (in_part s at)
      (subst (λ (rs : List Release). Leads (state_of d) (releases_at (take (length s - at) (drop at s)) 0) m.moments (state_of x.state) rs) (behind_part s at x.read) m.leads)

  on : (k : ℕ) → run (k + length m.moments) (state_of d) (releases_at s at) ≡ m.moments ++ run k (state_of x.state) (releases_at s (at + x.read))
  on k = along (state_of d) (releases_at s at) m.moments (state_of x.state) (releases_at s (at + x.read)) leads k

  fed_on : Fed (state_of x.state) (releases_at s (at + x.read))
  fed_on = behind (state_of d) (releases_at s at) m.moments (state_of x.state) (releases_at s (at + x.read)) leads (fed v)

  pub within : at + x.read ≤ length s
  within = reads_on s at m v.within

  pub served_on : Served s (record { state = state_of x.state; at = at + x.read })
  served_on = let f = fed_on in record { within = within; calls = f.calls; feeds = f.feeds; all_served = f.all_served; early = f.early }

  none_next : x.ended ≡ true → next_time (state_of x.state) (releases_at s (at + x.read)) ≡ None
  none_next e =
      none_left (state_of x.state) (releases_at s (at + x.read)) fed_on
      (subst (λ (rs : List Release). Stands (2 ^ 64 - 1) (next_time (state_of x.state) rs)) (behind_part s at x.read) (m.ended_is e).1)

  moments_are : run budget (state_of d) (releases_at s at) ≡ m.moments ++ run x.left (state_of x.state) (releases_at s (at + x.read))
  moments_are =
      by-test x.ended
      (λ e.
      let n : ℕ = budget - length m.moments in
      ap (λ (k : ℕ). run k (state_of d) (releases_at s at)) (enough n refl) ∙ on n
      ∙ ap (λ (l : List Moment). m.moments ++ l) (over n _ _ (none_next e) ∙ sym (over x.left _ _ (none_next e))))
      (λ e. ap (λ (k : ℕ). run k (state_of d) (releases_at s at)) (sym (m.left_is e)) ∙ on x.left)
    where
      enough : (n : ℕ) → n ≡ budget - length m.moments → budget ≡ n + length m.moments
      enough n e = omega (arith, m.few)

  pub splits : run_bytes s (record { state = state_of d; at = at }) budget
      ≡ record_bytes m.moments ++ run_bytes s (record { state = state_of x.state; at = at + x.read }) x.left
  splits = ap record_bytes moments_are ∙ bytes_both m.moments (run x.left (state_of x.state) (releases_at s (at + x.read)))

-- ---- how far a run has come, from a place of the slice on

pub record Progress (s whole before : List ℕ) (start : ℕ) (keep : Bool) (c : Cursor) (size left : ℕ) (out : List ℕ) : Type 0 where
  pub done : List ℕ
  pub size_is : size ≡ start + length done
  pub rest : done ++ run_bytes s c left ≡ whole
  pub kept : keep ≡ true → out ≡ laid start done before
  pub unchanged : keep ≡ false → out ≡ before
  pub same : length out ≡ length before
  pub few : size + limits.instant_most * left ≤ limits.instant_most * limits.budget_most
  pub served : Served s c

pub begins : (s out : List ℕ) (keep : Bool) (x : Piece) → RestRoom s x out keep → Progress s (rest_bytes s x) out x.size keep (cursor_of x) x.size x.left out
begins s out keep x r = record {
  done = [];
  size_is = omega arith;
  rest = refl;
  kept = λ e. sym (laid_none x.size out);
  unchanged = λ e. refl;
  same = refl;
  few = r.few;
  served = r.served;
}

module _ {s whole before : List ℕ} {start : ℕ} {keep : Bool} (d : Dispatcher) {at size left : ℕ} {out : List ℕ}
    (p : Progress s whole before start keep (record { state = state_of d; at = at }) size left out) where
  -- no instant is left to make
  pub spent : left ≡ 0 → (size ≡ start + length whole) × (keep ≡ true → out ≡ laid start whole before) × (keep ≡ false → out ≡ before)
  unfolding run record_bytes record_entries each
  spent e =
      let w : p.done ≡ whole = sym (append-nil p.done) ∙ ap (λ (l : List ℕ). p.done ++ l) (sym (ap (run_bytes s (record { state = state_of d; at = at })) e)) ∙ p.rest in
      (p.size_is ∙ ap (λ (l : List ℕ). start + length l) w, λ k. p.kept k ∙ ap (λ (l : List ℕ). laid start l before) w, p.unchanged)

  module _ {scratch : List ℕ} {y : Piece} {scratch' : List ℕ} (m : Makes (take (length s - at) (drop at s)) d left scratch y scratch') where
    abbrev bytes : List ℕ
    bytes = record_bytes m.moments

    abbrev next : Cursor
    next = record { state = state_of y.state; at = at + y.read }

    parts : p.done ++ (record_bytes m.moments ++ run_bytes s (record { state = state_of y.state; at = at + y.read }) y.left) ≡ whole
    parts = ap (λ (l : List ℕ). p.done ++ l) (sym (splits s at d m p.served)) ∙ p.rest

    -- there is room behind what is laid
    pub room : (keep ≡ true → start + length whole ≤ length before) → keep ≡ true → size + length (record_bytes m.moments) ≤ length out
    room r k =
        omega (
          arith,
          r k,
          p.size_is,
          p.same,
          ap length parts,
          length-append p.done (bytes ++ run_bytes s next y.left),
          length-append bytes (run_bytes s next y.left),
        )

    -- what was put is laid where the record is kept, and nothing changed where it is not
    pub more : {out' : List ℕ} → (keep ≡ true → start + length whole ≤ length before) → (keep ≡ true → out' ≡ laid size (record_bytes m.moments) out) → (keep ≡ false → out' ≡ out) → length out' ≡ length out
        → Progress s (whole) before (start) keep (record { state = state_of y.state; at = at + y.read }) (size + y.size) y.left out'
    more {out'} r put none same = record {
      done = p.done ++ bytes;
      size_is = omega (arith, m.size_is, p.size_is, length-append p.done bytes);
      rest = append_assoc p.done bytes (run_bytes s next y.left) ∙ parts;
      kept = λ k.
          put k
          ∙ ap (λ (n : ℕ). laid n bytes out) p.size_is
          ∙ ap (laid (start + length p.done) bytes) (p.kept k)
          ∙ laid_both (start) p.done bytes before (omega (arith, r k));
      unchanged = λ k. none k ∙ p.unchanged k;
      same = same ∙ p.same;
      few = omega (arith, grows m, p.few);
      served = served_on s at d m p.served;
    }

-- ---- a whole run: in the slice itself as far as there is room, then through a scratch

pub is_start : (k : Head) (d : Dispatcher) → state_of d ≡ opened k.table k.marked → start k ≡ record { state = state_of d; at = k.end }
is_start k d e = ap (λ (z : State). record { state = z; at = k.end }) (sym e)

module _ {s : List ℕ} {budget : ℕ} {out : List ℕ} {keep : Bool} (k : Head) (d : Dispatcher) (e : state_of d ≡ opened k.table k.marked) (r : Room s (start k) budget out keep) where
  abbrev here : Cursor
  here = record { state = state_of d; at = k.end }

  pub opened_room : Room s (record { state = state_of d; at = k.end }) budget out keep
  opened_room = subst (λ (c : Cursor). Room s c budget out keep) (is_start k d e) r

  pub from_start : RestRoom s (record { state = d; read = k.end; size = 0; left = budget; ended = false }) out keep
  from_start = let q = opened_room in record { kept = λ h. omega (arith, q.kept h); few = omega (arith, q.few); served = q.served }

  pub ran_from_start : {size : ℕ} {after : List ℕ} → RestRan s (record { state = d; read = k.end; size = 0; left = budget; ended = false }) out keep size after → Ran s (start k) budget out keep size after
  ran_from_start {size} {after} x =
      subst (λ (c : Cursor). Ran s c budget out keep size after) (sym (is_start k d e))
      (record { size_is = x.size_is ∙ zero-add (length (run_bytes s here budget)); holds = x.holds; unchanged = x.unchanged })

  module _ {x : Piece} {out' : List ℕ} (m : Makes (take (length s - k.end) (drop k.end s)) d budget out x out') where
    abbrev rest : List ℕ
    rest = run_bytes s (record { state = state_of x.state; at = k.end + x.read }) x.left

    parts_are : run_bytes s (record { state = state_of d; at = k.end }) budget
        ≡ record_bytes m.moments ++ run_bytes s (record { state = state_of x.state; at = k.end + x.read }) x.left
    parts_are = splits s k.end d m opened_room.served

    lengths : length (run_bytes s (record { state = state_of d; at = k.end }) budget) ≡ x.size + length (run_bytes s (record { state = state_of x.state; at = k.end + x.read }) x.left)
    lengths = ap length parts_are ∙ length-append (record_bytes m.moments) rest ∙ ap (λ (n : ℕ). n + length rest) (sym m.size_is)

    pub behind_first : RestRoom s (record { state = x.state; read = k.end + x.read; size = x.size; left = x.left; ended = x.ended }) out' keep
    behind_first = let q = opened_room in record {
      kept = λ h. omega (arith, q.kept h, lengths, same_slice m);
      few = omega (arith, grows m, q.few);
      served = served_on s k.end d m q.served;
    }

    pub ran_behind : {size : ℕ} {after : List ℕ} → keep ≡ true
        → RestRan s (record { state = x.state; read = k.end + x.read; size = x.size; left = x.left; ended = x.ended }) out' keep size after → Ran s (start k) budget out keep size after
    ran_behind {size} {after} h y =
        subst (λ (c : Cursor). Ran s c budget out keep size after) (sym (is_start k d e))
        (record {
          size_is = y.size_is ∙ sym lengths;
          holds = λ g.
              y.holds g
              ∙ ap₂ (λ (n : ℕ) (l : List ℕ). laid n rest l) (m.size_is ∙ sym (zero-add (length (record_bytes m.moments)))) m.holds
              ∙ laid_both 0 (record_bytes m.moments) rest out (omega arith)
              ∙ ap (λ (l : List ℕ). laid 0 l out) (sym parts_are);
          unchanged = λ g. clash keep h g;
        })
