-- Releases noted one after the other, and what the entries of a record tell from a place on. Assumes nothing.
use mathlib.Core.Path.{◌≡◌, refl, sym, ap, ◌∙◌, subst}
use mathlib.Core.Bool.{Bool, true, false, true≢false, false≢true}
use mathlib.Core.List.{List, [], ◌∷◌, ◌++◌, append-nil, append_assoc}
use Prim.Native.Nat.{ℕ, zero, suc, ◌+◌, ◌-◌, ◌*◌, ◌^◌, ◌≤◌, ◌<◌}
use native.Mathlib.Numerals.{add-one}
use native.Mathlib.Omega.{arith}
use borrow.Author.Tests.{le-leb, lt-leb, leb-true, leb-false}
use Rattle.std.proofs.Common.{None, Some}
use lib.Dec.{leb}
use lib.ListN.{length, take, set, length-append, length-set}
use lib.Seq.{length-take-le, take-suc-set}
use Rattle.entries.specs.Entries.{record_entry_at, record_entry_size}
use Rattle.run.specs.Files.{Checked, Rejected, Releases, refusal_of, with_release}
use Rattle.words.proofs.Laws.{past}
use Rattle.sets.proofs.Laws.{by-test}
use Rattle.entries.proofs.Places.{entry_within}
use Rattle.record.proofs.Accepted.{with_first}
use Rattle.reading.specs.Types.{Release, Refusal, AtEntry, RecordEntry, JobDone, IntervalEnded, ReleaseSkipped}
use Rattle.reading.specs.declared.collecting.Noted.{Noted}
use Rattle.reading.specs.Attested.{key, attested, attested_by, attested_from}
use Rattle.reading.specs.Parts.{told_by, keys_of, AllFit, AllEarly, Notes, NotesMore, attested_release, none_noted, Collects}
use Rattle.reading.specs.Pieces.{Front, front_by, front_from, front}
use Rattle.std.specs.Prelude.{Result, Ok, Err}
use Rattle.entries.specs.declared.Unreadable.{Unreadable}
use Rattle.entries.specs.Unreadable.{unreadable_number}

-- ---- one release more

keys_more : (rs : List Release) (r : Release) → keys_of (rs ++ (r ∷ [])) ≡ keys_of rs ++ (key r ∷ [])
unfolding keys_of
keys_more [] r = refl
keys_more (q ∷ qs) r = ap (λ (l : List ℕ). key q ∷ l) (keys_more qs r)

pub keys_length : (rs : List Release) → length (keys_of rs) ≡ length rs
unfolding keys_of
keys_length [] = refl
keys_length (r ∷ rs) = ap suc (keys_length rs)

fit_more : (rs : List Release) (r : Release) → AllFit rs → (r.task < 256) × (r.time < 2 ^ 64) → AllFit (rs ++ (r ∷ []))
unfolding AllFit
fit_more [] r h f = (f, tt)
fit_more (q ∷ qs) r h f = (h.0, fit_more qs r h.1 f)

early_more : (rs : List Release) (r : Release) → AllEarly rs → r.time ≤ 1000000000 → AllEarly (rs ++ (r ∷ []))
unfolding AllEarly
early_more [] r h f = (f, tt)
early_more (q ∷ qs) r h f = (h.0, early_more qs r h.1 f)

early_less : (rs : List Release) (r : Release) → AllEarly (rs ++ (r ∷ [])) → AllEarly rs × (r.time ≤ 1000000000)
unfolding AllEarly
early_less [] r h = (tt, h.0)
early_less (q ∷ qs) r h = ((h.0, (early_less qs r h.1).0), (early_less qs r h.1).1)

longer : (rs : List Release) (r : Release) → length (rs ++ (r ∷ [])) ≡ length rs + 1
longer rs r = length-append rs (r ∷ [])

-- an entry that tells of no release
pub notes_none : (n : Noted) (keys : List ℕ) → NotesMore n None keys n keys
notes_none n keys = record {
  same_length = refl;
  within = λ h. h;
  more = λ rs h. rw (append-nil rs) h;
}

module _ (n : Noted) (r : Release) (keys : List ℕ) where
  module _ (f : (r.task < 256) × (r.time < 2 ^ 64)) where
    -- one that cannot be noted, whatever came before it
    notes_not : ((rs : List Release) → Notes rs n keys → AllEarly (rs ++ (r ∷ [])) → length (rs ++ (r ∷ [])) ≤ length keys → ⊥)
        → NotesMore n (Some r) keys (record { count = n.count; possible = false }) keys
    notes_not none = record {
      same_length = refl;
      within = λ h. h;
      more = λ rs h. record {
        fit = fit_more rs r h.fit f;
        within = h.within;
        noted = λ x. absurd (false≢true x);
        not = λ x. none rs h;
      };
    }

    -- more than there is room for
    pub notes_full : length keys ≤ n.count → NotesMore n (Some r) keys (record { count = n.count; possible = false }) keys
    notes_full l = notes_not (λ rs h early few. go rs h (early_less rs r early).0 (omega (arith, longer rs r)) n.possible refl)
      where
        go : (rs : List Release) → Notes rs n keys → AllEarly rs → length rs < length keys → (b : Bool) → n.possible ≡ b → ⊥
        go rs h early few true x =
            omega (arith, keys_length rs, ap length (h.noted x).0, length-take-le n.count keys h.within)
        go rs h early few false x = h.not x early (omega arith)

    -- one that is too late
    pub notes_late : 1000000000 < r.time → NotesMore n (Some r) keys (record { count = n.count; possible = false }) keys
    notes_late l = notes_not (λ rs h early few. omega (arith, (early_less rs r early).1))

    pub notes_one : n.count < length keys → r.time ≤ 1000000000
        → NotesMore n (Some r) keys (record { count = n.count + 1; possible = n.possible }) (set keys n.count (key r))
    notes_one l m = record {
      same_length = length-set keys n.count (key r);
      within = λ h. omega (arith, length-set keys n.count (key r));
      more = λ rs h. record {
        fit = fit_more rs r h.fit f;
        within = omega (arith, length-set keys n.count (key r));
        noted = λ x. (
          ap (λ (k : ℕ). take k (set keys n.count (key r))) (add-one n.count) ∙ take-suc-set keys n.count (key r) l
              ∙ ap (λ (s : List ℕ). s ++ (key r ∷ [])) (h.noted x).0 ∙ sym (keys_more rs r),
          early_more rs r (h.noted x).1 m,
        );
        not = λ x early few. h.not x (early_less rs r early).0 (omega (arith, longer rs r, length-set keys n.count (key r)));
      };
    }

-- ---- the entries from a place on

-- releases in front of what is attested behind them
unfoldable pub in_front : List Release → Checked → Checked
in_front [] c = c
in_front (r ∷ rs) c = with_release r (in_front rs c)

pub front_more : (rs qs : List Release) (c : Checked) → in_front rs (in_front qs c) ≡ in_front (rs ++ qs) c
unfolding in_front
front_more [] qs c = refl
front_more (r ∷ rs) qs c = ap (with_release r) (front_more rs qs c)

pub front_all : (rs qs : List Release) → in_front rs (Releases qs) ≡ Releases (rs ++ qs)
unfolding in_front with_release
front_all [] qs = refl
front_all (r ∷ rs) qs = rw (front_all rs qs)

front_refused : (rs : List Release) (r : Refusal) → in_front rs (Rejected r) ≡ Rejected r
unfolding in_front with_release
front_refused [] r = refl
front_refused (q ∷ qs) r = rw (front_refused qs r)

-- how far a piece's entries have been taken apart
pub record Collecting (s : List ℕ) (n₀ : Noted) (before : List ℕ) (at : ℕ) (n : Noted) (keys : List ℕ) : Type 0 where
  pub rs : List Release
  pub fuel : ℕ
  pub enough : length s - at ≤ fuel
  pub rest : in_front rs (attested_from fuel s at) ≡ attested s
  pub fronts : rs ++ (front_from fuel s at).releases ≡ (front s).releases
  pub within : n₀.count ≤ length before → n.count ≤ length keys
  pub notes : (qs : List Release) → Notes qs n₀ before → Notes (qs ++ rs) n keys

pub begins : (s : List ℕ) (n : Noted) (keys : List ℕ) → Collecting s n keys 0 n keys
unfolding in_front
begins s n keys = record {
  rs = [];
  fuel = length s;
  enough = omega arith;
  rest = refl;
  fronts = refl;
  within = λ h. h;
  notes = λ qs h. rw (append-nil qs) h;
}

-- before any piece
pub notes_begin : (keys : List ℕ) → Notes [] none_noted keys
unfolding keys_of AllFit AllEarly
notes_begin keys = record { fit = tt; within = omega arith; noted = λ x. (refl, tt); not = λ x. absurd (true≢false x) }

-- no whole entry stands at the end
front_none : (k : ℕ) (s : List ℕ) (at : ℕ) → length s ≤ at → (front_from k s at).releases ≡ []
unfolding front_from front_by record_entry_at
front_none zero s at l = refl
front_none (suc k) s at l = rw (past 1 s at l)

pub attested_none : (k : ℕ) (s : List ℕ) (at : ℕ) → length s ≤ at → attested_from k s at ≡ Releases []
unfolding attested_from
attested_none zero s at l = refl
attested_none (suc k) s at l = rw (le-leb (length s) at l, attested_from)

pub attested_one : (k : ℕ) (s : List ℕ) (at : ℕ) → at < length s
    → attested_from (suc k) s at ≡ attested_by (record_entry_at s at) at (attested_from k s (at + record_entry_size (record_entry_at s at)))
unfolding attested_from
attested_one k s at l = rw (lt-leb (length s) at l, attested_from)

pub same_releases : (qs rs : List Release) → Releases qs ≡ Releases rs → qs ≡ rs
same_releases qs rs e = cc

-- a whole entry, and what it tells
pub record Says (at : ℕ) (e : RecordEntry) (c : Checked) (f : Front) : Type 0 where
  pub attested : attested_by (Ok e) at c ≡ in_front (attested_release (told_by e)) c
  pub front : (front_by (Ok e) at f).releases ≡ attested_release (told_by e) ++ f.releases
  pub some : 0 < record_entry_size (Ok e)

says : (at : ℕ) (e : RecordEntry) (c : Checked) (f : Front) → Says at e c f
unfolding attested_by front_by in_front
says at (JobDone x) c f = record { attested = refl; front = refl; some = omega arith }
says at (IntervalEnded x) c f = record { attested = refl; front = refl; some = omega arith }
says at (ReleaseSkipped x) c f = record { attested = refl; front = refl; some = omega arith }

pub some_bytes : (e : RecordEntry) → 0 < record_entry_size (Ok e)
some_bytes e = (says 0 e (Releases []) (front [])).some

module _ {s : List ℕ} {n₀ : Noted} {before : List ℕ} {at : ℕ} {n : Noted} {keys : List ℕ} (h : Collecting s n₀ before at n keys) (same : length keys ≡ length before) where
  -- no whole entry is left
  stops : (front_from h.fuel s at).releases ≡ [] → h.rs ≡ (front s).releases
  stops e = sym (append-nil h.rs) ∙ ap (λ (l : List Release). h.rs ++ l) (sym e) ∙ h.fronts

  all_noted : h.rs ≡ (front s).releases → (qs : List Release) → Notes qs n₀ before → Notes (qs ++ (front s).releases) n keys
  all_noted e qs m = subst (λ (l : List Release). Notes (qs ++ l) n keys) e (h.notes qs m)

  -- nothing is left
  pub ends : length s ≤ at → Collects s n₀ before (record { noted = n; refusal = None }) keys
  ends l =
      let all : Releases h.rs ≡ attested s =
      ap Releases (sym (append-nil h.rs)) ∙ sym (front_all h.rs []) ∙ ap (in_front h.rs) (sym (attested_none h.fuel s at l)) ∙ h.rest in
      let same-front : h.rs ≡ (front s).releases = stops (front_none h.fuel s at l) in
      record {
        same_length = same;
        within = h.within;
        refusal_is = ap refusal_of all;
        whole = λ e. sym all ∙ ap Releases same-front;
        notes = all_noted same-front;
      }

  module _ (l : at < length s) where
    turned : (k : ℕ) → h.fuel ≡ suc k
        → in_front h.rs (attested_by (record_entry_at s at) at (attested_from k s (at + record_entry_size (record_entry_at s at)))) ≡ attested s
    turned k e = ap (in_front h.rs) (sym (attested_one k s at l) ∙ ap (λ (x : ℕ). attested_from x s at) (sym e)) ∙ h.rest

    fronted : (k : ℕ) → h.fuel ≡ suc k
        → h.rs ++ (front_by (record_entry_at s at) at (front_from k s (at + record_entry_size (record_entry_at s at)))).releases ≡ (front s).releases
    unfolding front_from
    fronted k e = ap (λ (x : ℕ). h.rs ++ (front_from x s at).releases) (sym e) ∙ h.fronts

    -- what is no entry
    pub faulty : (e : Unreadable) → record_entry_at s at ≡ Err e
        → Collects s n₀ before (record { noted = n; refusal = Some (AtEntry (unreadable_number e) at) }) keys
    unfolding attested_by front_by
    faulty x a = go h.fuel refl
      where
        refused : (k : ℕ) → h.fuel ≡ suc k → Rejected (AtEntry (unreadable_number x) at) ≡ attested s
        refused k f = sym (front_refused h.rs (AtEntry (unreadable_number x) at)) ∙ subst (λ (y : Result RecordEntry Unreadable). in_front h.rs (attested_by y at (attested_from k s (at + record_entry_size y))) ≡ attested s) a (turned k f)

        here : (k : ℕ) → h.fuel ≡ suc k → h.rs ≡ (front s).releases
        here k f = sym (append-nil h.rs) ∙ subst (λ (y : Result RecordEntry Unreadable). h.rs ++ (front_by y at (front_from k s (at + record_entry_size y))).releases ≡ (front s).releases) a (fronted k f)

        go : (k : ℕ) → h.fuel ≡ k → Collects s n₀ before (record { noted = n; refusal = Some (AtEntry (unreadable_number x) at) }) keys
        go zero f = absurd (omega (arith, h.enough))
        go (suc k) f = record {
          same_length = same;
          within = h.within;
          refusal_is = ap refusal_of (refused k f);
          whole = λ e. absurd (cc);
          notes = all_noted (here k f);
        }

    pub goes_on : (e : RecordEntry) (m : Noted) (after : List ℕ) → record_entry_at s at ≡ Ok e → NotesMore n (told_by e) keys m after
        → Collecting s n₀ before (at + record_entry_size (Ok e)) m after
    goes_on e m after d more = go h.fuel refl
      where
        tells : List Release
        tells = attested_release (told_by e)

        go : (k : ℕ) → h.fuel ≡ k → Collecting s n₀ before (at + record_entry_size (Ok e)) m after
        go zero f = absurd (omega (arith, h.enough))
        go (suc k) f =
            let next : ℕ = at + record_entry_size (Ok e) in
            let w = says at e (attested_from k s next) (front_from k s next) in
            record {
              rs = h.rs ++ tells;
              fuel = k;
              enough = omega (arith, h.enough, w.some);
              rest = sym (front_more h.rs tells (attested_from k s next))
                  ∙ ap (in_front h.rs) (sym w.attested)
                  ∙ subst (λ (y : Result RecordEntry Unreadable). in_front h.rs (attested_by y at (attested_from k s (at + record_entry_size y))) ≡ attested s) d (turned k f);
              fronts = append_assoc h.rs tells (front_from k s next).releases
                  ∙ ap (λ (l : List Release). h.rs ++ l) (sym w.front)
                  ∙ subst (λ (y : Result RecordEntry Unreadable). h.rs ++ (front_by y at (front_from k s (at + record_entry_size y))).releases ≡ (front s).releases) d (fronted k f);
              within = λ q. more.within (h.within q);
              notes = λ qs q. subst (λ (l : List Release). Notes l m after) (append_assoc qs h.rs tells) (more.more (qs ++ h.rs) (h.notes qs q));
            }

-- ---- how many releases a record can tell of

-- no entry that tells of one has fewer bytes than 10
entry_few : (k : ℕ) (s : List ℕ) (at : ℕ) (rs : List Release) (x : Result RecordEntry Unreadable) → record_entry_size x ≤ length s - at
    → attested_by x at (attested_from k s (at + record_entry_size x)) ≡ Releases rs
    → ((n : ℕ) (qs : List Release) → attested_from k s (at + n) ≡ Releases qs → 10 * length qs ≤ length s - (at + n)) → 10 * length rs ≤ length s - at
unfolding attested_by
entry_few k s at rs (Err n) l h f = absurd (let z : ◌≡◌ {A = ℕ} 0 1 = cc in omega arith)
entry_few k s at rs (Ok (IntervalEnded y)) l h f = omega (arith, f 24 rs h)
entry_few k s at rs (Ok (JobDone y)) l h f = let w = with_first _ _ rs h in omega (arith, f 27 w.0 w.1, ap length w.2)
entry_few k s at rs (Ok (ReleaseSkipped y)) l h f = let w = with_first _ _ rs h in omega (arith, f 10 w.0 w.1, ap length w.2)

attested_few : (k : ℕ) (s : List ℕ) (at : ℕ) (rs : List Release) → attested_from k s at ≡ Releases rs → 10 * length rs ≤ length s - at
attested_few zero s at rs e = unfold attested_from in subst (λ (x : List Release). 10 * length x ≤ length s - at) (same_releases [] rs e) (omega arith)
attested_few (suc k) s at rs e =
    by-test (leb (length s) at)
    (λ l. subst (λ (x : List Release). 10 * length x ≤ length s - at) (same_releases [] rs (sym (attested_none (suc k) s at (leb-true (length s) at l)) ∙ e)) (omega arith))
    (λ l. entry_few k s at rs (record_entry_at s at) (entry_within s at) (sym (attested_one k s at (leb-false (length s) at l)) ∙ e) (λ n qs x. attested_few k s (at + n) qs x))

pub attested_short : (s : List ℕ) (rs : List Release) → attested s ≡ Releases rs → 10 * length rs ≤ length s
attested_short s rs e = omega (arith, attested_few (length s) s 0 rs e)
