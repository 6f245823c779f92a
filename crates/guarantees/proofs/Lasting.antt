-- How long the intervals last and that they follow each other without a gap while a job is pending, along a history: a monitor that goes from event to
-- event. From it follows how long each interval lasts, and by when each job completes.
use Rattle.std.proofs.Common.{◌≡◌, ◌∷◌, ◌++◌, ◌+◌, ◌*◌, ◌≤◌}
use Rattle.guarantees.specs.Types.{refl, sym, ap, ◌∙◌, subst, Bool, true, false, cond, true≢false, false≢true, List, [], ℕ, suc, Option, None, Some}
use native.Mathlib.Omega.{arith}
use native.Mathlib.Nat.{add-mul, one-mul, zero-mul}
use borrow.Author.Tests.{eqb-true}
use lib.Dec.{eqb, leb}
use lib.ListN.{length}
use Rattle.sets.proofs.Laws.{by-test, same_task}
use Rattle.table.specs.Table.{copyout_length}
use Rattle.guarantees.specs.History.{Event, Comes, Starts, Stops, Finishes, Completes, Ends, Takes, Defers, GivesWay, Begins}
use Rattle.guarantees.specs.Queries.{is_task, Situation, NoneOpen, Open, situation, Latest, none_yet, latest_by, latest, intervals, end_tick, begin_tick, completion, last_instant, after, each, first, upto, met}
use Rattle.guarantees.specs.Pending.{place_by, place}
use Rattle.guarantees.specs.Claim.{if_reached, CopiedOut}
use Rattle.guarantees.proofs.Spans.{in_time}
use Rattle.guarantees.proofs.Engine.{Engine, Free, Leaving, Apart, completed_to, ended_to, begun_to, copied}
use Rattle.guarantees.proofs.Turns.{View, nothing, view_by, Turning, taken_at}

-- ---- the monitor

-- whenever an instant is over and no interval is open, no job of the task is pending
abbrev pub at_rest : Option ℕ → Bool → Type 0
at_rest None pending = pending ≡ false
at_rest (Some b) pending = Unit {0}

module _ (M n : ℕ) where
  abbrev pub may_end : Option ℕ → ℕ → Type 0
  may_end None t = ⊥
  may_end (Some b) t = t ≤ b + M

  -- from the last instant, the begin of the open interval and whether a job of task n is pending
  unfoldable pub Lasting : ℕ → Option ℕ → Bool → List Event → Type 0
  Lasting now w p [] = at_rest w p
  Lasting now w p (Comes t ∷ es) = ((now ≤ t) × at_rest w p × in_time M w t) × Lasting t w p es
  Lasting now w p (Starts k t ∷ es) = Lasting now w p es
  Lasting now w p (Stops k t ∷ es) = Lasting now w p es
  Lasting now w p (Finishes k ∷ es) = Lasting now w p es
  Lasting now w p (Completes k t ∷ es) = Lasting now w (cond (eqb n k) false p) es
  Lasting now w p (Ends t ∷ es) = ((t ≡ now) × may_end w t) × Lasting now None p es
  Lasting now w p (Takes k t m ∷ es) = (t ≡ now) × Lasting now w (cond (eqb n k) true p) es
  Lasting now w p (Defers k t ∷ es) = Lasting now w p es
  Lasting now w p (GivesWay k ∷ es) = Lasting now w p es
  Lasting now w p (Begins t r l ∷ es) = ((t ≡ now) × (w ≡ None)) × Lasting now (Some t) p es

  -- ---- the ends of intervals

  never-tick {ℓ} : {A : Type ℓ} (t : ℕ) → Some t ≡ None → A
  never-tick t h = absurd (let z : ◌≡◌ {A = ℕ} 0 1 = cc in omega arith)

  tick-never {ℓ} : {A : Type ℓ} (t : ℕ) → None ≡ Some t → A
  tick-never t h = never-tick t (sym h)

  -- the open interval ends in time
  ends_by : (es : List Event) (now b : ℕ) (p : Bool) → Lasting now (Some b) p es → (e : ℕ) → end_tick es ≡ Some e → e ≤ b + M
  unfolding Lasting first
  ends_by [] now b p h e x = tick-never e x
  ends_by (Comes t ∷ es) now b p h e x = ends_by es t b p h.1 e x
  ends_by (Starts k t ∷ es) now b p h e x = ends_by es now b p h e x
  ends_by (Stops k t ∷ es) now b p h e x = ends_by es now b p h e x
  ends_by (Finishes k ∷ es) now b p h e x = ends_by es now b p h e x
  ends_by (Completes k t ∷ es) now b p h e x = ends_by es now b (cond (eqb n k) false p) h e x
  ends_by (Ends t ∷ es) now b p h e x = let z : t ≡ e = cc in omega (arith, h.0.1)
  ends_by (Takes k t m ∷ es) now b p h e x = ends_by es now b (cond (eqb n k) true p) h.1 e x
  ends_by (Defers k t ∷ es) now b p h e x = ends_by es now b p h e x
  ends_by (GivesWay k ∷ es) now b p h e x = ends_by es now b p h e x
  ends_by (Begins t r l ∷ es) now b p h e x = never-tick b h.0.1

  -- ---- where no interval is open and a job is to be executed, one begins before the instant is over

  begins_now : (es : List Event) (now : ℕ) (w : Option ℕ) (held : Bool) → Lasting now None true es → Turning n (record { now = w; place = 1; held = held }) es → begin_tick es ≡ Some now
  unfolding Lasting Turning first
  begins_now [] now w held h k = absurd (true≢false h)
  begins_now (Comes t ∷ es) now w held h k = absurd (true≢false h.0.1)
  begins_now (Starts j t ∷ es) now w held h k = begins_now es now w held h k.1
  begins_now (Stops j t ∷ es) now w held h k = begins_now es now w held h k.1
  begins_now (Finishes j ∷ es) now w held h k = begins_now es now w held h k.1
  begins_now (Completes j t ∷ es) now w held h k =
      by-test (eqb n j) (λ e. absurd (let z : ◌≡◌ {A = ℕ} 1 3 = k.0.1 e in omega arith)) (λ e. begins_now es now w held (rw e at h) (rw e at k.1))
  begins_now (Ends t ∷ es) now w held h k = absurd h.0.1
  begins_now (Takes j t m ∷ es) now w held h k =
      by-test (eqb n j) (λ e. absurd (let z : ◌≡◌ {A = ℕ} 1 0 = k.0.1 e in omega arith)) (λ e. begins_now es now w held (rw e at h.1) (rw e at k.1))
  begins_now (Defers j t ∷ es) now w held h k = begins_now es now w (cond (eqb n j) true held) h k.1
  begins_now (GivesWay j ∷ es) now w held h k = begins_now es now w held h k.1
  begins_now (Begins t r l ∷ es) now w held h k = ap Some h.0.0

  -- where the claim has a job to be executed the monitor has one pending
  abbrev Pends : Bool → ℕ → Type 0
  Pends p place = place ≡ 1 → p ≡ true

  next_begins : (before : List Event) (now : ℕ) (d : Option ℕ) (p : Bool) (v : View) (es : List Event) (t : ℕ) → Pends p v.place → Lasting now d p (before ++ (Ends t ∷ es))
      → Turning n v (before ++ (Ends t ∷ es)) → after (place_by n) v.place before ≡ 1 → begin_tick es ≡ Some t
  unfolding Lasting Turning after
  next_begins [] now d p v es t f h k e =
      begins_now es now v.now v.held (subst (λ (b : Bool). Lasting now None b es) (f e) h.1) (subst (λ (x : ℕ). Turning n (record { now = v.now; place = x; held = v.held }) es) e k.1) ∙ ap Some (sym h.0.0)
  next_begins (Comes u ∷ before) now d p v es t f h k e = next_begins before u d p (view_by n v (Comes u)) es t f h.1 k.1 e
  next_begins (Starts j u ∷ before) now d p v es t f h k e = next_begins before now d p v es t f h k.1 e
  next_begins (Stops j u ∷ before) now d p v es t f h k e = next_begins before now d p v es t f h k.1 e
  next_begins (Finishes j ∷ before) now d p v es t f h k e = next_begins before now d p v es t f h k.1 e
  next_begins (Completes j u ∷ before) now d p v es t f h k e = next_begins before now d (cond (eqb n j) false p) (view_by n v (Completes j u)) es t (go (eqb n j)) h k.1 e
    where
      go : (b : Bool) → Pends (cond b false p) (cond b 0 v.place)
      go true z = absurd (let y : ◌≡◌ {A = ℕ} 0 1 = z in omega arith)
      go false z = f z
  next_begins (Ends u ∷ before) now d p v es t f h k e = next_begins before now None p v es t f h.1 k.1 e
  next_begins (Takes j u m ∷ before) now d p v es t f h k e = next_begins before now d (cond (eqb n j) true p) (view_by n v (Takes j u m)) es t (go (eqb n j)) h.1 k.1 e
    where
      go : (b : Bool) → Pends (cond b true p) (cond b 1 v.place)
      go true z = refl
      go false z = f z
  next_begins (Defers j u ∷ before) now d p v es t f h k e = next_begins before now d p (view_by n v (Defers j u)) es t f h k.1 e
  next_begins (GivesWay j ∷ before) now d p v es t f h k e = next_begins before now d p v es t f h k.1 e
  next_begins (Begins u r l ∷ before) now d p v es t f h k e = next_begins before now (Some u) p (view_by n v (Begins u r l)) es t (go (is_task n r) (is_task n l)) h.1 k.1 e
    where
      go : (a b : Bool) → Pends p (cond a 2 (cond b 3 v.place))
      go true b z = absurd (let y : ◌≡◌ {A = ℕ} 2 1 = z in omega arith)
      go false true z = absurd (let y : ◌≡◌ {A = ℕ} 3 1 = z in omega arith)
      go false false z = f z

  pub next_in : (h : List Event) → Lasting 0 None false h → Turning n nothing h → (before es : List Event) (t : ℕ) → h ≡ before ++ (Ends t ∷ es) → place n before ≡ 1 → begin_tick es ≡ Some t
  next_in h l k before es t x e =
      next_begins before 0 None false nothing es t (λ z. absurd (let y : ◌≡◌ {A = ℕ} 0 1 = z in omega arith)) (subst (Lasting 0 None false) x l) (subst (Turning n nothing) x k) e

  -- ---- a job that is executed completes after the end of its interval

  abbrev Seen : Option ℕ → ℕ → Bool → View
  Seen now place held = record { now = now; place = place; held = held }

  not_yet : (es : List Event) (now b : ℕ) (p : Bool) (w : Option ℕ) (held : Bool) → Lasting now (Some b) p es → Turning n (Seen w 2 held) es → end_tick es ≡ None → completion n es ≡ None
  unfolding Lasting Turning first
  not_yet [] now b p w held h k x = refl
  not_yet (Comes t ∷ es) now b p w held h k x = not_yet es t b p (Some t) held h.1 k.1 x
  not_yet (Starts j t ∷ es) now b p w held h k x = not_yet es now b p w held h k.1 x
  not_yet (Stops j t ∷ es) now b p w held h k x = not_yet es now b p w held h k.1 x
  not_yet (Finishes j ∷ es) now b p w held h k x = not_yet es now b p w held h k.1 x
  not_yet (Completes j t ∷ es) now b p w held h k x =
      by-test (eqb n j) (λ e. absurd (let z : ◌≡◌ {A = ℕ} 2 3 = k.0.1 e in omega arith)) (λ e. rw e (not_yet es now b p w held (rw e at h) (rw e at k.1) x))
  not_yet (Ends t ∷ es) now b p w held h k x = never-tick t x
  not_yet (Takes j t m ∷ es) now b p w held h k x =
      by-test (eqb n j) (λ e. absurd (let z : ◌≡◌ {A = ℕ} 2 0 = k.0.1 e in omega arith)) (λ e. not_yet es now b p w held (rw e at h.1) (rw e at k.1) x)
  not_yet (Defers j t ∷ es) now b p w held h k x = not_yet es now b p w (cond (eqb n j) true held) h k.1 x
  not_yet (GivesWay j ∷ es) now b p w held h k x = not_yet es now b p w held h k.1 x
  not_yet (Begins t r l ∷ es) now b p w held h k x = never-tick b h.0.1

  if_reached_is : (last u c : ℕ) → if_reached last u ≡ Some c → c ≡ u
  if_reached_is last u c h = go (leb u last) h
    where
      go : (b : Bool) → cond b (Some u) None ≡ Some c → c ≡ u
      go true h = let z : u ≡ c = cc in sym z
      go false h = tick-never c h

  completes_by : (U b now : ℕ) (p : Bool) (w : Option ℕ) (held : Bool) (es : List Event) → CopiedOut U n b es → Lasting now (Some b) p es → Turning n (Seen w 2 held) es
      → (c : ℕ) → completion n es ≡ Some c → c ≤ b + M + U
  completes_by U b now p w held es o h k c x = go (end_tick es) refl
    where
      go : (e : Option ℕ) → end_tick es ≡ e → c ≤ b + M + U
      go None y = tick-never c (sym (not_yet es now b p w held h k y) ∙ x)
      go (Some e) y =
          let z : c ≡ e + U = if_reached_is (last_instant b es) (e + U) c (sym (o.copyout_ends e y) ∙ x) in
          omega (arith, ends_by es now b p h e y)

  -- ---- a job that was taken: each of its intervals begins where the one before ended

  -- the tick from which an interval is counted, the open one or the next to begin, and whether it is one more
  abbrev from : Option ℕ → ℕ → ℕ
  from None now = now
  from (Some b) now = b

  abbrev open_one : Option ℕ → ℕ
  open_one None = 0
  open_one (Some b) = 1

  task_is : (r : Option ℕ) → is_task n r ≡ true → r ≡ Some n
  task_is None e = absurd (false≢true e)
  task_is (Some k) e = ap Some (sym (eqb-true n k e))

  module _ (columns : List ℕ) where
    abbrev U : ℕ
    U = copyout_length columns n

    own_interval : (t now : ℕ) (r l : Option ℕ) (es : List Event) → is_task n r ≡ true → t ≡ now → Apart r l → Leaving columns now (begun_to columns t r l) es → CopiedOut U n t es
    own_interval t now r l es e x a h =
        let z : r ≡ Some n = task_is r e in
        copied columns n t l es (subst (λ (r : Option ℕ). Apart r l) z a)
        (subst (λ (u : ℕ). Leaving columns u (begun_to columns t (Some n) l) es) (sym x) (subst (λ (r : Option ℕ). Leaving columns now (begun_to columns t r l) es) z h))

    -- one interval more
    one_more : (x k : ℕ) → x ≡ k + 1 → x * M ≡ M + k * M
    one_more x k e = rw e (add-mul k 1 M ∙ omega (arith, one-mul M))

    waits : (es : List Event) (now late : ℕ) (d w : Option ℕ) (held : Bool) (s : Engine) → Lasting now d true es → Turning n (Seen w 1 held) es → Leaving columns late s es
        → (c : ℕ) → completion n es ≡ Some c → c ≤ from d now + (open_one d + length (upto n (intervals es))) * M + U
    unfolding Lasting Turning Leaving first each upto
    waits [] now late d w held s h k g c x = tick-never c x
    waits (Comes t ∷ es) now late None w held s h k g c x = absurd (true≢false h.0.1)
    waits (Comes t ∷ es) now late (Some b) w held s h k g c x = waits es t t (Some b) (Some t) held s h.1 k.1 g.1 c x
    waits (Starts j t ∷ es) now late d w held s h k g c x = waits es now late d w held s h k.1 g c x
    waits (Stops j t ∷ es) now late d w held s h k g c x = waits es now late d w held s h k.1 g c x
    waits (Finishes j ∷ es) now late d w held s h k g c x = waits es now late d w held s h k.1 g c x
    waits (Completes j t ∷ es) now late d w held s h k g c x =
        by-test (eqb n j) (λ e. absurd (let z : ◌≡◌ {A = ℕ} 1 3 = k.0.1 e in omega arith))
        (λ e. waits es now late d w held (completed_to s) (rw e at h) (rw e at k.1) g.1 c (rw e at x))
    waits (Ends t ∷ es) now late None w held s h k g c x = absurd h.0.1
    waits (Ends t ∷ es) now late (Some b) w held s h k g c x =
        let y : c ≤ now + (0 + length (upto n (intervals es))) * M + U = waits es now late None w held (ended_to s t) h.1 k.1 g.1 c x in
        omega (arith, h.0.0, h.0.1, one_more (1 + length (upto n (intervals es))) (0 + length (upto n (intervals es))) (omega arith))
    waits (Takes j t m ∷ es) now late d w held s h k g c x =
        by-test (eqb n j) (λ e. absurd (let z : ◌≡◌ {A = ℕ} 1 0 = k.0.1 e in omega arith))
        (λ e. waits es now late d w held s (rw e at h.1) (rw e at k.1) g c x)
    waits (Defers j t ∷ es) now late d w held s h k g c x = waits es now late d w (cond (eqb n j) true held) s h k.1 g c x
    waits (GivesWay j ∷ es) now late d w held s h k g c x = waits es now late d w held s h k.1 g c x
    waits (Begins t r l ∷ es) now late (Some b) w held s h k g c x = never-tick b h.0.1
    waits (Begins t r l ∷ es) now late None w held s h k g c x =
        by-test (is_task n r)
        (λ e. rw e (own c (completes_by U t now true w held es (own_interval t late r l es e g.0.0 g.0.1 g.1) h.1 (rw e at k.1) c x)))
        (λ e. by-test (is_task n l) (λ f. absurd (let z : ◌≡◌ {A = ℕ} 1 2 = k.0.2 f in omega arith))
        (λ f. rw e (other (length (upto n (intervals es))) c (waits es now late (Some t) w held (begun_to columns t r l) h.1 (rw (e, f) at k.1) g.1 c x))))
      where
        own : (c : ℕ) → c ≤ t + M + U → c ≤ now + (0 + 1) * M + U
        own c y = omega (arith, h.0.0, one_more (0 + 1) 0 (omega arith), zero-mul M)

        other : (z c : ℕ) → c ≤ t + (1 + z) * M + U → c ≤ now + (0 + suc z) * M + U
        other z c y = let a : (0 + suc z) * M ≡ (1 + z) * M = ap (λ (i : ℕ). i * M) (omega arith) in omega (arith, h.0.0)

    leaving_at : (before : List Event) (e : Event) (after : List Event) (now : ℕ) (s : Engine) → Leaving columns now s (before ++ (e ∷ after))
        → (now' : ℕ) × (s' : Engine) × Leaving columns now' s' (e ∷ after)
    unfolding Leaving
    leaving_at [] e after now s h = (now, s, h)
    leaving_at (Comes t ∷ es) e after now s h = leaving_at es e after t s h.1
    leaving_at (Starts k t ∷ es) e after now s h = leaving_at es e after now s h
    leaving_at (Stops k t ∷ es) e after now s h = leaving_at es e after now s h
    leaving_at (Finishes k ∷ es) e after now s h = leaving_at es e after now s h
    leaving_at (Completes k t ∷ es) e after now s h = leaving_at es e after now (completed_to s) h.1
    leaving_at (Ends t ∷ es) e after now s h = leaving_at es e after now (ended_to s t) h.1
    leaving_at (Takes k t m ∷ es) e after now s h = leaving_at es e after now s h
    leaving_at (Defers k t ∷ es) e after now s h = leaving_at es e after now s h
    leaving_at (GivesWay k ∷ es) e after now s h = leaving_at es e after now s h
    leaving_at (Begins t r l ∷ es) e after now s h = leaving_at es e after now (begun_to columns t r l) h.1

  -- ---- at some event of a history

  -- what the monitor has is what the claim asks for
  abbrev Agrees : ℕ → Option ℕ → Latest → Situation → Type 0
  Agrees now None x at = at ≡ NoneOpen
  Agrees now (Some b) x at = (x.begun ≡ Some b) × (b ≤ now) × ((r : Option ℕ) × (at ≡ Open r))

  later_agrees : (now t : ℕ) (w : Option ℕ) (x : Latest) (at : Situation) → now ≤ t → Agrees now w x at → Agrees t w x at
  later_agrees now t None x at l a = a
  later_agrees now t (Some b) x at l a = (a.0, omega (arith, a.1), a.2)

  record Meets (now : ℕ) (w : Option ℕ) (p : Bool) (x : Latest) (at : Situation) (e : Event) (after : List Event) : Type 0 where
    allowed : Lasting now w p (e ∷ after)
    agrees : Agrees now w x at

  meets : (before : List Event) (e : Event) (after : List Event) (now : ℕ) (w : Option ℕ) (p : Bool) (x : Latest) (at : Situation) → Lasting now w p (before ++ (e ∷ after)) → Agrees now w x at
      → (now' : ℕ) × (w' : Option ℕ) × (p' : Bool) × Meets now' w' p' (latest x before) (situation at before) e after
  unfolding Lasting after
  meets [] e after now w p x at h a = (now, w, p, record { allowed = h; agrees = a })
  meets (Comes t ∷ es) e after now w p x at h a = meets es e after t w p x at h.1 (later_agrees now t w x at h.0.0 a)
  meets (Starts k t ∷ es) e after now w p x at h a = meets es e after now w p x at h a
  meets (Stops k t ∷ es) e after now w p x at h a = meets es e after now w p x at h a
  meets (Finishes k ∷ es) e after now w p x at h a = meets es e after now w p x at h a
  meets (Completes k t ∷ es) e after now w p x at h a = meets es e after now w (cond (eqb n k) false p) x at h a
  meets (Ends t ∷ es) e after now w p x at h a = meets es e after now None p (latest_by x (Ends t)) NoneOpen h.1 refl
  meets (Takes k t m ∷ es) e after now w p x at h a = meets es e after now w (cond (eqb n k) true p) x at h.1 a
  meets (Defers k t ∷ es) e after now w p x at h a = meets es e after now w p x at h a
  meets (GivesWay k ∷ es) e after now w p x at h a = meets es e after now w p x at h a
  meets (Begins t r l ∷ es) e after now w p x at h a =
      meets es e after now (Some t) p (latest_by x (Begins t r l)) (Open r) h.1 (refl, omega (arith, h.0.0), (r, refl))

  module _ (h : List Event) (lasting : Lasting 0 None false h) (before after : List Event) where
    abbrev At : Event → Type 0
    At e = (now : ℕ) × (w : Option ℕ) × (p : Bool) × Meets now w p (latest none_yet before) (situation NoneOpen before) e after

    at_event : (e : Event) → h ≡ before ++ (e ∷ after) → At e
    at_event e x = meets before e after 0 None false none_yet NoneOpen (subst (Lasting 0 None false) x lasting) refl

    ends_in : (w : Option ℕ) (now e b : ℕ) (x : Latest) (at : Situation) → may_end w e → Agrees now w x at → x.begun ≡ Some b → e ≤ b + M
    ends_in None now e b x at m a y = absurd m
    ends_in (Some u) now e b x at m a y = let z : Some u ≡ Some b = sym a.0 ∙ y in let v : u ≡ b = cc in omega arith

    -- every interval lasts at most M
    pub ended_in_time : (b e : ℕ) → h ≡ before ++ (Ends e ∷ after) → (latest none_yet before).begun ≡ Some b → e ≤ b + M
    unfolding Lasting
    ended_in_time b e x y =
        let m : At (Ends e) = at_event (Ends e) x in
        ends_in m.1 m.0 e b (latest none_yet before) (situation NoneOpen before) m.3.allowed.0.1 m.3.agrees y

    open_in : (w : Option ℕ) (now t b : ℕ) (r : Option ℕ) (x : Latest) (at : Situation) → in_time M w t → Agrees now w x at → at ≡ Open r → x.begun ≡ Some b → t ≤ b + M
    open_in None now t b r x at m a o y = absurd (let z : NoneOpen ≡ Open r = sym a ∙ o in let v : ◌≡◌ {A = ℕ} 0 1 = cc in omega arith)
    open_in (Some u) now t b r x at m a o y = let z : Some u ≡ Some b = sym a.0 ∙ y in let v : u ≡ b = cc in omega arith

    -- and no instant finds one open later
    pub open_in_time : (b t : ℕ) (r : Option ℕ) → h ≡ before ++ (Comes t ∷ after) → situation NoneOpen before ≡ Open r → (latest none_yet before).begun ≡ Some b → t ≤ b + M
    unfolding Lasting
    open_in_time b t r x o y =
        let m : At (Comes t) = at_event (Comes t) x in
        open_in m.1 m.0 t b r (latest none_yet before) (situation NoneOpen before) m.3.allowed.0.2 m.3.agrees o y

    -- by when a job completes
    counted_from : (columns : List ℕ) (w : Option ℕ) (now t c : ℕ) (x : Latest) (at : Situation) (rs : List (Option ℕ)) → t ≡ now → Agrees now w x at
        → c ≤ from w now + (open_one w + length (upto n rs)) * M + copyout_length columns n → c ≤ t + length (met n at rs) * M + copyout_length columns n
    counted_from columns None now t c x at rs e a y = rw a (let z : (0 + length (upto n rs)) * M ≡ length (upto n rs) * M = ap (λ (i : ℕ). i * M) (omega arith) in omega arith)
    counted_from columns (Some b) now t c x at rs e a y =
        rw a.2.1 (let z : (1 + length (upto n rs)) * M ≡ suc (length (upto n rs)) * M = ap (λ (i : ℕ). i * M) (omega arith) in omega (arith, a.1))

    pub completes_in : (columns : List ℕ) → Turning n nothing h → Leaving columns 0 Free h → (t : ℕ) (m : Bool) → h ≡ before ++ (Takes n t m ∷ after)
        → (c : ℕ) → completion n after ≡ Some c → c ≤ t + length (met n (situation NoneOpen before) (intervals after)) * M + copyout_length columns n
    unfolding Lasting Leaving
    completes_in columns turns leaves t m x c y =
        let a : At (Takes n t m) = at_event (Takes n t m) x in
        let g : (now : ℕ) × (s : Engine) × Leaving columns now s (Takes n t m ∷ after) = leaving_at columns before (Takes n t m) after 0 Free (subst (Leaving columns 0 Free) x leaves) in
        let k : (v : Option ℕ) × Turning n (Seen v 1 false) after = taken_at n h turns before after t m x in
        counted_from columns a.1 a.0 t c (latest none_yet before) (situation NoneOpen before) (intervals after) a.3.allowed.0 a.3.agrees
        (waits columns after a.0 g.0 a.1 k.0 false g.1 (rw (same_task n) at a.3.allowed.1) k.1 g.2 c y)
