-- A run that is handed on in pieces: a piece, and what comes behind it. Assumes nothing.
use Rattle.std.proofs.Common.{◌≡◌, refl, sym, ◌∙◌, subst, true, List, [], ◌∷◌, ◌++◌, ℕ, ◌+◌, ◌-◌, ◌^◌, ◌≤◌, inl, inr, arith, length, take, drop, length-append}
use mathlib.Core.Path.{ap, ap₂}
use mathlib.Core.List.{append_assoc}
use mathlib.Core.Logic.{⊎_elim}
use Rattle.std.specs.Prelude.{Result, Ok, Err, IfErr, IsErrAnd, ⊤}
use Rattle.std.specs.List.{concat}
use Rattle.sets.proofs.Laws.{by-test}
use Rattle.rules.specs.Steps.{Stands}
use Rattle.dispatcher.specs.Dispatcher.{state_of}
use Rattle.run.specs.Types.{Release, State}
use Rattle.dispatcher.specs.declared.Dispatcher.{Dispatcher}
use Rattle.pieces.specs.declared.Piece.{Piece}
use Rattle.run.specs.Listed.{releases_at}
use Rattle.entries.specs.Entries.{each, laid}
use Rattle.entries.specs.Limits.{instant_most}
use Rattle.run.specs.Run.{record_entries, Moment, released_after, next_time, record_bytes}
use Rattle.pieces.specs.Pieces.{Leads, Makes, HandsOn, HandsOver, StopsAt, Leaves, pieces_laid}
use Rattle.run.proofs.Listing.{in_part, behind_part}
use Rattle.pieces.proofs.Reaching.{bytes_both, front, same_slice}

-- moments that lead on, and more behind them
leads_both : (d : State) (rs : List Release) (ms : List Moment) (e : State) (es : List Release) (ns : List Moment) (f : State) (fs : List Release)
    → Leads d rs ms e es → Leads e es ns f fs → Leads d rs (ms ++ ns) f fs
unfolding Leads
leads_both d rs [] e es ns f fs h k =
    subst (λ (z : State). Leads z rs ns f fs) (sym h.0) (subst (λ (z : List Release). Leads e z ns f fs) (sym h.1) k)
leads_both d rs (m ∷ ms) e es ns f fs h k = (h.0, h.1, leads_both m.state (released_after m.time rs) ms e es ns f fs h.2 k)

-- where no moment may come, the state and the releases stay
none_led : (d : State) (rs : List Release) (ms : List Moment) (e : State) (es : List Release) → Leads d rs ms e es → length ms ≤ 0
    → Stands (2 ^ 64 - 1) (next_time d rs) → Stands (2 ^ 64 - 1) (next_time e es)
unfolding Leads
none_led d rs [] e es h k v = subst (λ (z : State). Stands (2 ^ 64 - 1) (next_time z es)) h.0 (subst (λ (z : List Release). Stands (2 ^ 64 - 1) (next_time d z)) h.1 v)
none_led d rs (m ∷ ms) e es h k v = absurd (omega arith)

no_bytes : concat [] ≡ record_bytes []
unfolding record_bytes record_entries each
no_bytes = refl

-- what is said of who takes the pieces, without what the slice holds
pub handed_on : {F E : Type 0} {Calls : F → List ℕ → Result ⊤ E → F → Type 0} {d : State} {rs : List Release} {budget : ℕ} {f : F} {out : List ℕ} {last : F} {end : List ℕ}
    → HandsOver Calls d rs budget f out last end → HandsOn (λ (f : F) (piece : List ℕ) (g : F). Calls f piece (Ok tt) g) d rs budget f
handed_on {F} {E} {Calls} {d} {rs} {budget} {f} {out} {last} h = record {
  last = last;
  pieces = h.pieces;
  called = h.called;
  moments = h.moments;
  bytes = h.bytes;
  state = h.state;
  releases = h.releases;
  leads = h.leads;
  few = h.few;
  all = h.all;
}

-- and with it
held : {F E : Type 0} (Calls : F → List ℕ → Result ⊤ E → F → Type 0) (d : State) (rs : List Release) (budget : ℕ) (f : F) (out end : List ℕ)
    (h : HandsOn (λ (f : F) (piece : List ℕ) (g : F). Calls f piece (Ok tt) g) d rs budget f) → Leaves h.pieces out end → HandsOver Calls d rs budget f out h.last end
held Calls d rs budget f out end h leaves = record {
  pieces = h.pieces;
  called = h.called;
  moments = h.moments;
  bytes = h.bytes;
  state = h.state;
  releases = h.releases;
  leads = h.leads;
  few = h.few;
  all = h.all;
  leaves = leaves;
}

-- the budget is spent
pub spent : {F : Type 0} (Calls : F → List ℕ → F → Type 0) (d : State) (rs : List Release) (left : ℕ) (f : F) → left ≡ 0 → HandsOn Calls d rs left f
unfolding Leads
spent Calls d rs left f e = record {
  last = f;
  pieces = [];
  called = refl;
  moments = [];
  bytes = no_bytes;
  state = d;
  releases = rs;
  leads = (refl, refl);
  few = omega arith;
  all = inl (omega (arith, e));
}

pub spent_over : {F E : Type 0} (Calls : F → List ℕ → Result ⊤ E → F → Type 0) (d : State) (rs : List Release) (left : ℕ) (f : F) (out : List ℕ) → left ≡ 0
    → HandsOver Calls d rs left f out f out
unfolding pieces_laid spent
spent_over Calls d rs left f out e =
    held Calls d rs left f out out (spent (λ (f : _) (piece : List ℕ) (g : _). Calls f piece (Ok tt) g) d rs left f e) (λ room. refl, λ none. refl)

module _ (s : List ℕ) (at : ℕ) {d : Dispatcher} {budget : ℕ} {out : List ℕ} {x : Piece} {out' : List ℕ}
    (m : Makes (take (length s - at) (drop at s)) d budget out x out') where
  leads : Leads (state_of d) (releases_at s at) m.moments (state_of x.state) (releases_at s (at + x.read))
  leads =
      subst (λ (rs : List Release). Leads (state_of d) rs m.moments (state_of x.state) (releases_at s (at + x.read))) (in_part s at)
      (subst (λ (rs : List Release). Leads (state_of d) (releases_at (take (length s - at) (drop at s)) 0) m.moments (state_of x.state) rs) (behind_part s at x.read) m.leads)

  over : x.ended ≡ true → Stands (2 ^ 64 - 1) (next_time (state_of x.state) (releases_at s (at + x.read)))
  over e = subst (λ (rs : List Release). Stands (2 ^ 64 - 1) (next_time (state_of x.state) rs)) (behind_part s at x.read) (m.ended_is e).1

  piece_laid : out' ≡ laid 0 (take x.size out') out
  piece_laid = m.holds ∙ ap (λ (p : List ℕ). laid 0 p out) (sym (front m))

  -- what is left behind the piece, where there is room
  leaves : (ps : List (List ℕ)) (last : List ℕ) → instant_most ≤ length out → Leaves ps out' last → Leaves (take x.size out' ∷ ps) out last
  unfolding pieces_laid
  leaves ps last room h = (
    λ much. h.0 (omega (arith, room, same_slice m)) ∙ ap (pieces_laid ps) piece_laid,
    λ none. absurd (omega (arith, room, none)),
  )

  -- a piece was handed on, and what comes behind it
  pub one_more : {F : Type 0} (Calls : F → List ℕ → F → Type 0) (f g : F) → Calls f (take x.size out') g
      → HandsOn Calls (state_of x.state) (releases_at s (at + x.read)) x.left g → HandsOn Calls (state_of d) (releases_at s at) budget f
  one_more Calls f g call h = record {
    last = h.last;
    pieces = take x.size out' ∷ h.pieces;
    called = (g, call, h.called);
    moments = m.moments ++ h.moments;
    bytes = ap₂ (λ (p q : List ℕ). p ++ q) (front m) h.bytes ∙ sym (bytes_both m.moments h.moments);
    state = h.state;
    releases = h.releases;
    leads = leads_both _ _ m.moments _ _ h.moments _ _ leads h.leads;
    few = omega (arith, m.few, h.few, length-append m.moments h.moments);
    all = by-test x.ended
        (λ e. inr (none_led _ _ h.moments _ _ h.leads (omega (arith, h.few, (m.ended_is e).0)) (over e)))
        (λ e. ⊎_elim (λ n. inl (omega (arith, n, m.left_is e, length-append m.moments h.moments))) (λ v. inr v) h.all);
  }

  module _ {F E : Type 0} (Calls : F → List ℕ → Result ⊤ E → F → Type 0) (f g : F) (room : instant_most ≤ length out) where
    pub one_more_over : {last : F} {end : List ℕ} → Calls f (take x.size out') (Ok tt) g
        → HandsOver Calls (state_of x.state) (releases_at s (at + x.read)) x.left g out' last end → HandsOver Calls (state_of d) (releases_at s at) budget f out last end
    unfolding one_more handed_on
    one_more_over {last} {end} call h =
        held Calls (state_of d) (releases_at s at) budget f out end
        (one_more (λ (f : F) (piece : List ℕ) (g : F). Calls f piece (Ok tt) g) f g call (handed_on h)) (leaves h.pieces end room h.leaves)

    -- a piece was handed on, and one behind it stops the run
    pub stops_later : {e : E} {last : F} {end : List ℕ} → Calls f (take x.size out') (Ok tt) g
        → StopsAt Calls (state_of x.state) (releases_at s (at + x.read)) x.left g out' e last end → StopsAt Calls (state_of d) (releases_at s at) budget f out e last end
    stops_later {e} {last} {end} call h = record {
      pieces = take x.size out' ∷ h.pieces;
      before = h.before;
      called = (g, call, h.called);
      piece = h.piece;
      stopped = h.stopped;
      moments = m.moments ++ h.moments;
      bytes = append_assoc (take x.size out') (concat h.pieces) h.piece ∙ ap₂ (λ (p q : List ℕ). p ++ q) (front m) h.bytes ∙ sym (bytes_both m.moments h.moments);
      state = h.state;
      releases = h.releases;
      leads = leads_both _ _ m.moments _ _ h.moments _ _ leads h.leads;
      few = omega (arith, m.few, h.few, length-append m.moments h.moments);
      leaves = leaves (h.pieces ++ (h.piece ∷ [])) end room h.leaves;
    }

    -- a piece stops it
    pub stops_here : {e : E} → Calls f (take x.size out') (Err e) g → StopsAt Calls (state_of d) (releases_at s at) budget f out e g out'
    unfolding pieces_laid
    stops_here {e} call = record {
      pieces = [];
      before = f;
      called = refl;
      piece = take x.size out';
      stopped = call;
      moments = m.moments;
      bytes = front m;
      state = state_of x.state;
      releases = releases_at s (at + x.read);
      leads = leads;
      few = omega (arith, m.few);
      leaves = (λ much. piece_laid, λ none. absurd (omega (arith, room, none)));
    }

-- what is known of an error
pub if_err : {T E : Type 0} {P Q : E → Type 0} (r : Result T E) → IsErrAnd r Q → ((e : E) → Q e → P e) → IfErr r P
if_err (Ok x) h k = absurd h
if_err (Err e) h k = k e h
