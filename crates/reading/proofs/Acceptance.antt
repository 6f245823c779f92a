-- What is read from a record is the only list that yields it. Assumes nothing.
use Rattle.std.proofs.Common.{◌∷◌, Some}
use Rattle.std.specs.Prelude.{IsOk}
use mathlib.Core.Path.{◌≡◌, refl, sym, ap, ap₂, ◌∙◌, subst}
use mathlib.Core.Bool.{false≢true}
use mathlib.Core.Logic.{◌⊎◌, inl, inr, ⊎_elim}
use Prim.Native.Nat.{◌≤◌}
use native.Mathlib.Omega.{arith}
use borrow.Author.Tests.{eq-eqb, eqb-true}
use lib.Dec.{eqb, leb}
use lib.ListN.{length}
use Rattle.sets.proofs.Laws.{by-test}
use Rattle.table.specs.Refusals.{refusal_number}
use Rattle.table.specs.Head.{head_read, head_of}
use Rattle.rules.specs.State.{State}
use Rattle.rules.specs.Calls.{opening}
use Rattle.run.specs.Files.{Checked, Rejected, Releases, releases_of}
use Rattle.run.specs.Run.{record_bytes, moments_of}
use Rattle.record.specs.Writing.{Written, Wrote, written, outcome_number}
use Rattle.record.proofs.Accepted.{Accepted, accepted}
use Rattle.record.proofs.TasksAlone.{fair}
use Rattle.reading.specs.Types.{Bool, true, false, List, [], ℕ, Release, Refusal, Alone, Result, Ok, Err, Outcome, RefusedInput}
use Rattle.reading.specs.Attested.{attested, sorted}
use Rattle.reading.specs.Parts.{AllFit, AllEarly}
use Rattle.reading.specs.Reading.{list_bytes, input_of, same_bytes, yielded_by, yields, turned_away, listed_if, read_attested, read_opened, reading}
use Rattle.reading.specs.Acceptance.{Yields, NoList, Accepts}
use Rattle.reading.proofs.RunAttested.{run_attested, tally}
use Rattle.reading.proofs.Noting.{same_releases}
use Rattle.reading.proofs.Telling.{file_attested}
use Rattle.reading.proofs.Leaving.{leaves_one}
use Rattle.reading.proofs.Ordering.{sorted_tally, all_tally, late, past_time, early, none_past, none_late, in_time, ordered}
use Rattle.reading.proofs.Inputs.{reads_list}
use Rattle.reading.proofs.Numbers.{Low, RefusalLow, opening_low, CheckedLow, attested_low}

-- ---- bytes compared

same : (xs : List ℕ) → same_bytes xs xs ≡ true
unfolding same_bytes
same [] = refl
same (x ∷ xs) = rw (eq-eqb x x refl) (same xs)

equal : (xs ys : List ℕ) → same_bytes xs ys ≡ true → xs ≡ ys
unfolding same_bytes
equal [] [] h = refl
equal [] (y ∷ ys) h = absurd (false≢true h)
equal (x ∷ xs) [] h = absurd (false≢true h)
equal (x ∷ xs) (y ∷ ys) h =
    by-test (eqb x y)
    (λ e. ap₂ (λ (z : ℕ) (zs : List ℕ). z ∷ zs) (eqb-true x y e) (equal xs ys (rw e at h)))
    (λ e. absurd (false≢true (rw e at h)))

-- ---- an input whose record is these bytes

record Found (s bytes : List ℕ) (c : Checked) : Type 0 where
  qs : List Release
  releases : c ≡ Releases qs
  its_record : record_bytes (moments_of s qs) ≡ bytes

found : (s bytes : List ℕ) (c : Checked) → yielded_by s bytes c ≡ true → Found s bytes c
unfolding yielded_by
found s bytes (Rejected r) h = absurd (false≢true h)
found s bytes (Releases qs) h = record { qs = qs; releases = refl; its_record = equal (record_bytes (moments_of s qs)) bytes h }

-- it tells as many releases of each sort as the input has
module _ (s : List ℕ) (qs : List Release) (h : releases_of s ≡ Releases qs) (bytes : List ℕ) (e : record_bytes (moments_of s qs) ≡ bytes) where
  tells : attested bytes ≡ Releases (run_attested (moments_of s qs))
  tells = ap attested (sym e) ∙ file_attested s qs h

  as_many : (ps : List Release) → attested bytes ≡ Releases ps → (test : Release → Bool) → tally test ps ≡ tally test qs
  as_many ps f test = ap (tally test) (same_releases ps (run_attested (moments_of s qs)) (sym f ∙ tells)) ∙ leaves_one s qs h test

-- ---- a list that yields a record

-- the record tells the list's releases
pub read_back : (tasks : List ℕ) (rs : List Release) (bytes : List ℕ) → Yields tasks rs bytes → (ps : List Release) × (attested bytes ≡ Releases ps) × (sorted ps ≡ rs)
read_back tasks rs bytes y =
    let s : List ℕ = input_of tasks rs in
    let a : Accepted s rs = accepted s rs y.admissible in
    let ps : List Release = run_attested (moments_of s rs) in
    let t : attested bytes ≡ Releases ps = tells s rs y.admissible bytes y.its_record in
    (ps, t, ordered (head_read (head_of s)).table.present (fair s rs a).present ps rs a.sorted (as_many s rs y.admissible bytes y.its_record ps t))

module _ (tasks bytes : List ℕ) (ps : List Release) (h : IsOk (opening tasks)) where
  abbrev s : List ℕ
  s = input_of tasks (sorted ps)

  -- what the input of the releases attested, in order, is read as
  read_as : tally past_time ps ≡ 0 → (f : Found (input_of tasks (sorted ps)) bytes (releases_of (input_of tasks (sorted ps)))) → f.qs ≡ sorted ps
  read_as small f = reads_list tasks (sorted ps) f.qs h (sorted_tally past_time ps ∙ small) f.releases

  -- releases that no list has: one is too late, or they are too many
  pub unlistable : AllFit ps → (AllEarly ps → length ps ≤ 4096 → ⊥) → yields (input_of tasks (sorted ps)) bytes ≡ false
  unlistable fit none = by-test (yields s bytes) (λ b. absurd (go (found s bytes (releases_of s) b))) (λ b. b)
    where
      go : Found s bytes (releases_of s) → ⊥
      go f =
          let a : Accepted s f.qs = accepted s f.qs f.releases in
          let e : f.qs ≡ sorted ps = read_as (none_past ps fit).1 f in
          none (early ps (sym (sorted_tally late ps) ∙ ap (tally late) (sym e) ∙ none_late (head_read (head_of s)).table.present f.qs a.sorted))
          (omega (arith, a.few, ap length e, all_tally (sorted ps), all_tally ps, sorted_tally (λ r. true) ps))

  -- they yield the record, if its bytes are those of their run
  yielded : attested bytes ≡ Releases ps → yields (input_of tasks (sorted ps)) bytes ≡ true → Yields tasks (sorted ps) bytes
  yielded t b =
      let f : Found s bytes (releases_of s) = found s bytes (releases_of s) b in
      let a : Accepted s f.qs = accepted s f.qs f.releases in
      let e : f.qs ≡ sorted ps =
      read_as (in_time ps (as_many s f.qs f.releases bytes f.its_record ps t late ∙ none_late (head_read (head_of s)).table.present f.qs a.sorted)) f in
      record {
        opens = h;
        admissible = f.releases ∙ ap Releases e;
        its_record = ap (λ (rs : List Release). record_bytes (moments_of s rs)) (sym e) ∙ f.its_record;
      }

-- ---- what is read

module _ (tasks bytes lent : List ℕ) where
  attested_list : (ps : List Release) → IsOk (opening tasks) → attested bytes ≡ Releases ps → reading tasks bytes lent ≡ listed_if tasks bytes lent (sorted ps)
  unfolding reading
  attested_list ps h t = go (opening tasks) h ∙ ap (read_attested tasks bytes lent) t
    where
      go : (o : Result State Refusal) → IsOk o → read_opened tasks bytes lent o ≡ read_attested tasks bytes lent (attested bytes)
      go (Ok d) h = refl
      go (Err r) h = absurd (cc)

  listed : (rs : List Release) → yields (input_of tasks rs) bytes ≡ true → listed_if tasks bytes lent rs ≡ written (list_bytes rs) lent
  unfolding listed_if
  listed rs b = rw b

  not_listed : (rs : List Release) → yields (input_of tasks rs) bytes ≡ false → listed_if tasks bytes lent rs ≡ turned_away (Alone 18) lent
  unfolding listed_if
  not_listed rs b = rw b

  -- a list that yields the record is what is read
  pub reads : (rs : List Release) → Yields tasks rs bytes → reading tasks bytes lent ≡ written (list_bytes rs) lent
  unfolding yielded_by
  reads rs y =
      let s : List ℕ = input_of tasks rs in
      let b = read_back tasks rs bytes y in
      attested_list b.0 y.opens b.1 ∙ ap (listed_if tasks bytes lent) b.2
      ∙ listed rs (ap (yielded_by s bytes) y.admissible ∙ ap (same_bytes (record_bytes (moments_of s rs))) (sym y.its_record) ∙ same (record_bytes (moments_of s rs)))

  -- by whether an entry is refused, a list yields the record, or none does
  read_cases : (P : Written → Type 0) → ((r : Refusal) → Low (refusal_number (Some r)) → P (turned_away r lent))
      → ((rs : List Release) → Yields tasks rs bytes → P (written (list_bytes rs) lent))
      → (IsOk (opening tasks) → (ps : List Release) → attested bytes ≡ Releases ps → yields (input_of tasks (sorted ps)) bytes ≡ false → P (turned_away (Alone 18) lent))
      → P (reading tasks bytes lent)
  unfolding reading
  read_cases P away some none = go (opening tasks) refl (opening_low tasks)
    where
      go_attested : IsOk (opening tasks) → (c : Checked) → attested bytes ≡ c → CheckedLow c → P (read_attested tasks bytes lent c)
      go_attested h (Rejected r) t l = away r l
      go_attested h (Releases ps) t l =
          by-test (yields (input_of tasks (sorted ps)) bytes)
          (λ b. subst P (sym (listed (sorted ps) b)) (some (sorted ps) (yielded tasks bytes ps h t b)))
          (λ b. subst P (sym (not_listed (sorted ps) b)) (none h ps t b))

      go : (o : Result State Refusal) → opening tasks ≡ o → RefusalLow o → P (read_opened tasks bytes lent o)
      go (Ok d) h l = go_attested (rw h) (attested bytes) refl (attested_low bytes)
      go (Err r) h l = away r l

-- a list is written, or the slice is too short for it
abbrev Writes : Outcome → Type 0
Writes o = (outcome_number o ≡ 0) ⊎ (outcome_number o ≡ 13)

writes : (bytes lent : List ℕ) → Writes (written bytes lent).outcome
unfolding written
writes bytes lent = by-test (leb (length bytes) (length lent)) (λ b. rw b (inl refl)) (λ b. rw b (inr refl))

not_18 : (o : Outcome) → Writes o → outcome_number o ≡ 18 → ⊥
not_18 o w e = ⊎_elim (λ x. omega arith) (λ x. omega arith) w

pub accepts : (tasks bytes before : List ℕ) → Accepts tasks bytes before (reading tasks bytes before).outcome (reading tasks bytes before).memory
accepts tasks bytes before = record {
  if_yielded = λ rs y. let e = reads tasks bytes before rs y in record { outcome_is = ap (λ (w : Written). w.outcome) e; holds = ap (λ (w : Written). w.memory) e };
  only_if = read_cases tasks bytes before
      (λ (w : Written). Writes w.outcome → (rs : List Release) × Yields tasks rs bytes × Wrote (written (list_bytes rs) before) w.outcome w.memory)
      (λ r l w. absurd (⊎_elim (λ x. omega arith) (λ x. omega arith) w))
      (λ rs y w. (rs, y, record { outcome_is = refl; holds = refl }))
      (λ h ps t b w. absurd (not_18 (Err (RefusedInput (Alone 18))) w refl));
  the_only = λ rs qs y z.
      let a = read_back tasks rs bytes y in
      let b = read_back tasks qs bytes z in
      sym a.2 ∙ ap sorted (same_releases a.0 b.0 (sym a.1 ∙ b.1)) ∙ b.2;
  if_none = λ n.
      let ps = n.whole.0 in
      let t = n.whole.1 in
      by-test (yields (input_of tasks (sorted ps)) bytes)
      (λ b. absurd (n.none (sorted ps) (yielded tasks bytes ps n.opens t b)))
      (λ b. ap (λ (w : Written). outcome_number w.outcome) (attested_list tasks bytes before ps n.opens t ∙ not_listed tasks bytes before (sorted ps) b));
  none_if = λ e.
      read_cases tasks bytes before (λ (w : Written). outcome_number w.outcome ≡ 18 → NoList tasks bytes)
      (λ r l x. absurd (omega arith))
      (λ rs y x. absurd (not_18 (written (list_bytes rs) before).outcome (writes (list_bytes rs) before) x))
      (λ h ps t b x. record {
        opens = h;
        whole = (ps, t);
        none = λ rs y.
            not_18 (written (list_bytes rs) before).outcome (writes (list_bytes rs) before)
            (ap (λ (w : Written). outcome_number w.outcome) (sym (reads tasks bytes before rs y)) ∙ e);
      })
      e;
}
