-- How many events of a kind an instant has.
use Rattle.std.proofs.Common.{◌≡◌, ◌∷◌, ◌++◌, ◌+◌, ◌*◌}
use Rattle.guarantees.specs.Types.{refl, ap, ◌∙◌, Bool, true, false, cond, List, [], ℕ, zero, suc, Option, State}
use native.Mathlib.Omega.{arith}
use Rattle.sets.specs.Sets.{member, count, size}
use Rattle.rules.specs.Instant.{at_a, at_b, at_e, at_f, at_g, taken_at, deferred_at}
use Rattle.guarantees.specs.History.{Event, Comes, Starts, Stops, Finishes, Completes, Ends, Takes, Defers, GivesWay, Begins, happens, processor_events_in, finish_events_in, completion_events, end_events, take_events, begin_events, giving_events_in, start_events}
use Rattle.guarantees.specs.Queries.{total, is_take, is_begin, is_completion}
use Rattle.guarantees.proofs.Events.{by_processor, by_finishes, by_gives, by_ends, by_takes, by_defers, by_begins, by_starts, by_front, tail_of, front_of, happens_parts, front_parts, tail_parts}

module _ (f : Event → ℕ) where
  abbrev As : List Event → List Event → Type 0
  As ys zs = total f zs ≡ total f ys

  pub total_append : (xs ys : List Event) → total f (xs ++ ys) ≡ total f xs + total f ys
  unfolding total
  total_append [] ys = omega arith
  total_append (x ∷ xs) ys = omega (arith, total_append xs ys)

  -- an event of another kind
  skip : (ys : List Event) (e : Event) → f e ≡ 0 → (es : List Event) → As ys es → As ys (e ∷ es)
  unfolding total
  skip ys e z es h = omega (arith, z, h)

  takes_total : (v : ℕ) → ((n t : ℕ) (m : Bool) → f (Takes n t m) ≡ v) → (k taken marked t : ℕ) → total f (take_events k taken marked t) ≡ v * count k (λ n. member n taken)
  unfolding take_events total count
  takes_total v h zero taken marked t = omega arith
  takes_total v h (suc k) taken marked t =
      total_append (take_events k taken marked t) (cond (member k taken) (Takes k t (member k marked) ∷ []) [])
      ∙ go (member k taken) (total f (take_events k taken marked t)) (count k (λ n. member n taken)) (takes_total v h k taken marked t)
    where
      go : (b : Bool) (x y : ℕ) → x ≡ v * y → x + total f (cond b (Takes k t (member k marked) ∷ []) []) ≡ v * (y + cond b 1 0)
      go true x y e = omega (arith, h k t (member k marked))
      go false x y e = omega arith

module _ (d : State) (t set : ℕ) (h : List Event) where
  abbrev taken : ℕ
  taken = taken_at d t set

  abbrev given : List Event
  given = giving_events_in (at_b d t).state.phase (at_e d t set).phase

  abbrev closed : List Event
  closed = end_events t (at_e d t set).phase (at_f d t set).state.phase

  abbrev begun : List Event
  begun = begin_events t (at_f d t set).state.phase (at_g d t set).phase

  abbrev started : List Event
  started = start_events t (at_f d t set).state.phase (at_g d t set).phase

  -- before the releases a phase or an interval ends, and nothing else occurs
  before_releases : (f : Event → ℕ) → ((u : ℕ) → f (Comes u) ≡ 0) → ((n u : ℕ) → f (Starts n u) ≡ 0) → ((n u : ℕ) → f (Stops n u) ≡ 0) → ((n : ℕ) → f (Finishes n) ≡ 0)
      → ((n u : ℕ) → f (Completes n u) ≡ 0) → ((u : ℕ) → f (Ends u) ≡ 0) → (ys : List Event) → total f (front_of d t ++ ys) ≡ total f ys
  before_releases f a x y b c e ys =
      by_front (As f ys) (λ u. skip f ys (Comes u) (a u)) (λ n u. skip f ys (Starts n u) (x n u)) (λ n u. skip f ys (Stops n u) (y n u)) (λ n. skip f ys (Finishes n) (b n))
      (λ n u. skip f ys (Completes n u) (c n u)) (λ u. skip f ys (Ends u) (e u)) d t ys refl

  -- and after those that are taken some wait, a copy-in gives way and an interval ends or begins, and nothing else occurs
  after_releases : (f : Event → ℕ) → ((n u : ℕ) → f (Defers n u) ≡ 0) → ((n : ℕ) → f (GivesWay n) ≡ 0) → ((u : ℕ) → f (Ends u) ≡ 0) → ((u : ℕ) (r l : Option ℕ) → f (Begins u r l) ≡ 0) → ((n u : ℕ) → f (Starts n u) ≡ 0)
      → total f (tail_of d t set ++ h) ≡ total f h
  after_releases f v w a b c =
      ap (total f) (tail_parts d t set h)
      ∙ by_defers (As f h) 32 (deferred_at d t set) t (λ n l m. skip f h (Defers n t) (v n t)) (given ++ (closed ++ (begun ++ (started ++ h))))
      (by_gives (As f h) (λ n. skip f h (GivesWay n) (w n)) (at_b d t).state.phase (at_e d t set).phase (closed ++ (begun ++ (started ++ h)))
      (by_ends (As f h) t (skip f h (Ends t) (a t)) (at_e d t set).phase (at_f d t set).state.phase (begun ++ (started ++ h))
      (by_begins (As f h) t (λ r l. skip f h (Begins t r l) (b t r l)) (at_f d t set).state.phase (at_g d t set).phase (started ++ h)
      (by_starts (As f h) t (λ n. skip f h (Starts n t) (c n t)) (at_f d t set).state.phase (at_g d t set).phase h refl))))

  pub begins_of : total is_begin (happens d t set ++ h) ≡ total is_begin (begin_events t (at_f d t set).state.phase (at_g d t set).phase) + total is_begin h
  begins_of =
      let ys : List Event = tail_of d t set ++ h in
      ap (total is_begin) (happens_parts d t set h)
      ∙ before_releases is_begin (λ u. refl) (λ n u. refl) (λ n u. refl) (λ n. refl) (λ n u. refl) (λ u. refl) (take_events 32 taken d.marked t ++ ys)
      ∙ by_takes (As is_begin ys) 32 taken d.marked t (λ n l m. skip is_begin ys (Takes n t (member n d.marked)) refl) ys refl
      ∙ ap (total is_begin) (tail_parts d t set h)
      ∙ by_defers (As is_begin (given ++ (closed ++ (begun ++ (started ++ h))))) 32 (deferred_at d t set) t (λ n l m. skip is_begin (given ++ (closed ++ (begun ++ (started ++ h)))) (Defers n t) refl) (given ++ (closed ++ (begun ++ (started ++ h)))) refl
      ∙ by_gives (As is_begin (closed ++ (begun ++ (started ++ h)))) (λ n. skip is_begin (closed ++ (begun ++ (started ++ h))) (GivesWay n) refl) (at_b d t).state.phase (at_e d t set).phase (closed ++ (begun ++ (started ++ h))) refl
      ∙ by_ends (As is_begin (begun ++ (started ++ h))) t (skip is_begin (begun ++ (started ++ h)) (Ends t) refl) (at_e d t set).phase (at_f d t set).state.phase (begun ++ (started ++ h)) refl
      ∙ omega (
        arith,
        total_append is_begin begun (started ++ h),
        by_starts (As is_begin h) t (λ n. skip is_begin h (Starts n t) refl) (at_f d t set).state.phase (at_g d t set).phase h refl,
      )

  pub takes_of : total is_take (happens d t set ++ h) ≡ size (taken_at d t set) + total is_take h
  unfolding size
  takes_of =
      let ys : List Event = tail_of d t set ++ h in
      ap (total is_take) (happens_parts d t set h)
      ∙ before_releases is_take (λ u. refl) (λ n u. refl) (λ n u. refl) (λ n. refl) (λ n u. refl) (λ u. refl) (take_events 32 taken d.marked t ++ ys)
      ∙ omega (
        arith,
        total_append is_take (take_events 32 taken d.marked t) ys,
        takes_total is_take 1 (λ n t m. refl) 32 taken d.marked t,
        after_releases is_take (λ n u. refl) (λ n. refl) (λ u. refl) (λ u r l. refl) (λ n u. refl),
      )

  pub completes_of : total is_completion (happens d t set ++ h) ≡ total is_completion (completion_events (at_a d t).done) + total is_completion h
  completes_of =
      let e : List Event = end_events t (at_a d t).state.phase (at_b d t).state.phase in
      let c : List Event = completion_events (at_a d t).done in
      let ys : List Event = tail_of d t set ++ h in
      let rest : List Event = take_events 32 taken d.marked t ++ ys in
      let f : List Event = finish_events_in t d.phase ++ (c ++ (e ++ rest)) in
      ap (total is_completion) (happens_parts d t set h ∙ front_parts d t rest)
      ∙ skip is_completion (c ++ (e ++ rest)) (Comes t) refl (processor_events_in t d.phase ++ f)
      (by_processor (As is_completion (c ++ (e ++ rest))) (λ n u. skip is_completion (c ++ (e ++ rest)) (Starts n u) refl) (λ n u. skip is_completion (c ++ (e ++ rest)) (Stops n u) refl) t d.phase f
      (by_finishes (As is_completion (c ++ (e ++ rest))) (λ n. skip is_completion (c ++ (e ++ rest)) (Finishes n) refl) t d.phase (c ++ (e ++ rest)) refl))
      ∙ omega (
        arith,
        total_append is_completion c (e ++ rest),
        by_ends (As is_completion rest) t (skip is_completion rest (Ends t) refl) (at_a d t).state.phase (at_b d t).state.phase rest refl,
        by_takes (As is_completion ys) 32 taken d.marked t (λ n l m. skip is_completion ys (Takes n t (member n d.marked)) refl) ys refl,
        after_releases is_completion (λ n u. refl) (λ n. refl) (λ u. refl) (λ u r l. refl) (λ n u. refl),
      )
