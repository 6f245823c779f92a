-- The tasks that an interval can block, and the jobs that it blocks, over the registers.
use Rattle.std.proofs.Common.{◌&&◌, ◌||◌, ◌∷◌, ◌^◌, ◌<◌, ◌≡◌}
use Rattle.rules.specs.Types.{Bool, true, false, cond, List, [], ℕ, suc, refl, sym, ap, ◌∙◌, subst, Option, None, Some, TasksAbove, Interval, Phase, Between, Within, State, Registers}
use mathlib.Core.Logic.{◌↔◌}
use borrow.Author.Tests.{ltb-true, lt-ltb, eqb-true}
use lib.Dec.{eqb, ltb}
use lib.ListN.{get_or}
use Rattle.sets.specs.Sets.{member, insert, union, intersection}
use Rattle.sets.proofs.Laws.{by-test, both, left, right, clash, none, ext, collected, collect_small, collect_in, collect_out, member_task, empty, inserted}
use Rattle.rules.specs.Order.{priority, outranks, higher_than, higher}
use Rattle.rules.specs.Instant.{over, is_over, processor_task, awaiting_execution, blocks, counted}
use Rattle.rules.specs.Blocking.{executed_in, blockable, CanBlock}
use Rattle.rules.specs.Registers.{as_task, as_processor, copyin_in, processor_in, interval_in, phase_in, Memory, state_in}
use Rattle.rules.specs.Steps.{Above, marked_in, tasks_above, BlockableIn}
use Rattle.rules.proofs.Parts.{executes}
use Rattle.rules.proofs.ClosingTest.{open_in}

-- ---- the set, in words

module _ (d : State) (k : ℕ) (small : d.table.present < 2 ^ 32) where
  from_set : (p : Phase) → d.phase ≡ p → member k (higher d (executed_in p) d.table.present) ≡ true → CanBlock d k
  unfolding higher_than
  from_set (Between next outgoing) e m = clash (member k 0) m (none k)
  from_set (Within i) e m = at_end (over i) refl m
    where
      executed : (q : Option ℕ) → processor_task i.processor ≡ q → over i ≡ true → member k (higher d q d.table.present) ≡ true → CanBlock d k
      executed None f o m = clash (member k 0) m (none k)
      executed (Some n) f o m =
          let x : (member k d.table.present && ltb (priority d k) (priority d n)) ≡ true =
          collect_out (λ j. member j d.table.present && ltb (priority d j) (priority d n)) k m in
          record {
            in_table = left (member k d.table.present) (ltb (priority d k) (priority d n)) x;
            interval = i;
            is_open = e;
            at_end = o;
            task = n;
            executed = f;
            is_higher = ltb-true (priority d k) (priority d n) (right (member k d.table.present) (ltb (priority d k) (priority d n)) x);
          }

      at_end : (b : Bool) → over i ≡ b → member k (higher d (cond b (processor_task i.processor) None) d.table.present) ≡ true → CanBlock d k
      at_end true o m = executed (processor_task i.processor) refl o m
      at_end false o m = clash (member k 0) m (none k)

  to_set : CanBlock d k → member k (blockable d) ≡ true
  unfolding blockable higher_than
  to_set c =
      ap (λ (p : Phase). member k (higher d (executed_in p) d.table.present)) c.is_open
      ∙ ap (λ (b : Bool). member k (higher d (cond b (processor_task c.interval.processor) None) d.table.present)) c.at_end
      ∙ ap (λ (q : Option ℕ). member k (higher d q d.table.present)) c.executed
      ∙ collect_in (λ j. member j d.table.present && ltb (priority d j) (priority d c.task)) k (member_task k d.table.present small c.in_table)
      (both (member k d.table.present) (ltb (priority d k) (priority d c.task)) c.in_table (lt-ltb (priority d k) (priority d c.task) c.is_higher))

  in_words : (member k (blockable d) ≡ true) ↔ CanBlock d k
  unfolding blockable
  in_words = (from_set d.phase refl, to_set)

pub is_blockable : {x : ℕ} (d : State) → d.table.present < 2 ^ 32 → x ≡ blockable d → BlockableIn d x
is_blockable d small e = record { is = e; exactly = λ k. subst (λ (y : ℕ). (member k y ≡ true) ↔ CanBlock d k) (sym e) (in_words d k small) }

-- ---- over the registers

executed_is : (r : Registers) → is_over (phase_in r) ≡ true → executed_in (phase_in r) ≡ processor_task (processor_in r)
unfolding is_over interval_in
executed_is r h =
    let e : phase_in r ≡ Within (interval_in r) = open_in r h in
    ap executed_in e ∙ ap (λ (b : Bool). cond b (processor_task (processor_in r)) None) (ap is_over (sym e) ∙ h)

module _ (m : Memory) (r : Registers) where
  idle_task : eqb r.processor 0 ≡ true → processor_task (processor_in r) ≡ None
  idle_task e = simp e

  executed_task : eqb r.processor 0 ≡ false → processor_task (processor_in r) ≡ Some r.task
  executed_task e = sym (executes r.processor r.task r.start r.until e)

  -- the jobs that it blocks

  nobody : (q : Option ℕ) → higher (state_in m r) q 0 ≡ 0
  unfolding higher_than
  nobody None = refl
  nobody (Some n) =
      let p : ℕ → Bool = λ k. member k 0 && ltb (priority (state_in m r) k) (priority (state_in m r) n) in
      empty (higher_than (state_in m r).table.priority n 0) (collect_small p) (λ k l. collected p k l ∙ ap (λ (b : Bool). b && ltb (priority (state_in m r) k) (priority (state_in m r) n)) (none k))

-- ---- at an interval's end, by what its processor did

module _ (d : State) (i : Interval) (kind n present start until : ℕ)
    (p : d.phase ≡ Within i) (e : over i ≡ true) (q : i.processor ≡ as_processor kind n start until) where
  executed_there : executed_in d.phase ≡ processor_task (as_processor kind n start until)
  executed_there =
      ap executed_in p ∙ ap (λ (b : Bool). cond b (processor_task i.processor) None) e ∙ ap processor_task q

  small_there : d.table.present ≡ present → present < 2 ^ 32 → d.table.present < 2 ^ 32
  small_there t l = subst (λ (x : ℕ). x < 2 ^ 32) (sym t) l

  pub idled_blocks : eqb kind 0 ≡ true → d.table.present ≡ present → present < 2 ^ 32 → BlockableIn d 0
  unfolding blockable
  idled_blocks k t l =
      is_blockable d (small_there t l)
      (sym (ap (λ (x : Option ℕ). higher d x d.table.present) (executed_there ∙ idled)))
    where
      idled : processor_task (as_processor kind n start until) ≡ None
      idled = simp k

  pub executed_blocks : {x : ℕ} {ranks : List ℕ} → eqb kind 0 ≡ false → d.table.present ≡ present → present < 2 ^ 32 → d.table.priority ≡ ranks
      → x ≡ higher_than ranks n present → BlockableIn d x
  unfolding blockable
  executed_blocks k t l r h =
      is_blockable d (small_there t l)
      (h ∙ sym (ap (λ (x : Option ℕ). higher d x d.table.present) (executed_there ∙ sym (executes kind n start until k)) ∙ rw (t, r)))

module _ (m : Memory) (r : Registers) where
  pub none_idle : eqb r.processor 0 ≡ true → 0 ≡ blocks (state_in m r) (interval_in r)
  unfolding blocks interval_in state_in
  none_idle e = sym (ap (λ (q : Option ℕ). higher (state_in m r) q (awaiting_execution (copyin_in r) r.ready)) (idle_task m r e))

  pub none_wait : {waiting : ℕ} → waiting ≡ awaiting_execution (copyin_in r) r.ready → waiting ≡ 0 → 0 ≡ blocks (state_in m r) (interval_in r)
  unfolding blocks interval_in state_in
  none_wait w e = sym (ap (higher (state_in m r) (processor_task (processor_in r))) (sym w ∙ e) ∙ nobody m r (processor_task (processor_in r)))

  pub some_blocks : {x waiting : ℕ} → eqb r.processor 0 ≡ false → waiting ≡ awaiting_execution (copyin_in r) r.ready
      → x ≡ higher_than m.table.priority r.task waiting → x ≡ blocks (state_in m r) (interval_in r)
  unfolding blocks interval_in state_in
  some_blocks f w e =
      e ∙ sym (ap (λ (q : Option ℕ). higher (state_in m r) q (awaiting_execution (copyin_in r) r.ready)) (executed_task m r f) ∙ rw w)

  pub set_is : is_over (phase_in r) ≡ true → eqb r.processor 0 ≡ false
      → blockable (state_in m r) ≡ higher_than m.table.priority r.task m.table.present
  unfolding blockable state_in
  set_is h f = ap (λ (q : Option ℕ). higher (state_in m r) q m.table.present) (executed_is r h ∙ executed_task m r f)

-- ---- counted

pub none_counted : (counts : List ℕ) → counted 0 0 counts ≡ counts
unfolding counted
none_counted counts = from 0 counts
  where
    from : (k : ℕ) (xs : List ℕ) → counted 0 k xs ≡ xs
    from k [] = refl
    from k (x ∷ xs) = rw (none k, from (suc k) xs)

-- ---- the jobs that wait, of the tasks that are compared

-- what is kept, with other tasks in its table
abbrev pub with_tasks : Memory → ℕ → Memory
with_tasks m tasks = record {
  table = record { present = tasks; spaced = m.table.spaced; priority = m.table.priority; columns = m.table.columns };
  clock = m.clock;
  arrays = m.arrays;
  waiting = m.waiting;
}

module _ (ranks : List ℕ) (n present waiting : ℕ) where
  is_in : (s k : ℕ) → k < 32 → member k (higher_than ranks n s) ≡ (member k s && ltb (get_or ranks k 0) (get_or ranks n 0))
  unfolding higher_than
  is_in s k l = collected (λ j. member j s && ltb (get_or ranks j 0) (get_or ranks n 0)) k l

  few : (s : ℕ) → higher_than ranks n s < 2 ^ 32
  unfolding higher_than
  few s = collect_small (λ j. member j s && ltb (get_or ranks j 0) (get_or ranks n 0))

  compared : (w p l : Bool) → (w && ((p || w) && l)) ≡ (w && l)
  compared true true l = refl
  compared true false l = refl
  compared false p l = refl

  pub of_those : {set : ℕ} → set ≡ higher_than ranks n (union present waiting) → intersection waiting set ≡ higher_than ranks n waiting
  unfolding intersection union
  of_those {set} e =
      ext 32 (intersection waiting set) (higher_than ranks n waiting) (collect_small (λ k. member k waiting && member k set)) (few waiting)
      (λ k l.
      collected (λ k. member k waiting && member k set) k l
      ∙ ap (λ (b : Bool). member k waiting && b)
      (ap (member k) e ∙ is_in (union present waiting) k l
      ∙ ap (λ (b : Bool). b && ltb (get_or ranks k 0) (get_or ranks n 0)) (collected (λ k. member k present || member k waiting) k l))
      ∙ compared (member k waiting) (member k present) (ltb (get_or ranks k 0) (get_or ranks n 0))
      ∙ sym (is_in waiting k l))

-- ---- what is gathered, a mark for each task

pub gathers : (ranks marks : List ℕ) (n s : ℕ) → Above ranks n marks → marked_in s marks ≡ higher_than ranks n s
unfolding higher_than
gathers ranks marks n s a =
    let p : ℕ → Bool = λ k. member k s && eqb (get_or marks k 0) 1 in
    let q : ℕ → Bool = λ k. member k s && ltb (get_or ranks k 0) (get_or ranks n 0) in
    ext 32 (marked_in s marks) (higher_than ranks n s) (collect_small p) (collect_small q)
    (λ k l.
    collected p k l
    ∙ ap (λ (b : Bool). member k s && b) (ap (λ (x : ℕ). eqb x 1) (a k l) ∙ is_one (ltb (get_or ranks k 0) (get_or ranks n 0)))
    ∙ sym (collected q k l))
  where
    is_one : (b : Bool) → eqb (cond b 1 0) 1 ≡ b
    is_one true = refl
    is_one false = refl

pub none_gathered : (marks : List ℕ) → 0 ≡ marked_in 0 marks
none_gathered marks =
    let p : ℕ → Bool = λ k. member k 0 && eqb (get_or marks k 0) 1 in
    sym (empty (marked_in 0 marks) (collect_small p) (λ k l. collected p k l ∙ rw (none k)))

-- of the jobs that wait those that are in the set
pub of_the_set : {s : ℕ} (ranks : List ℕ) (n present waiting : ℕ) (x : TasksAbove) → tasks_above x ≡ higher_than ranks n (union present waiting)
    → s ≡ intersection waiting x.tasks → marked_in s x.higher ≡ higher_than ranks n waiting
unfolding intersection
of_the_set {s} ranks n present waiting x e f =
    let p : ℕ → Bool = λ k. member k s && eqb (get_or x.higher k 0) 1 in
    ext 32 (marked_in s x.higher) (intersection waiting (tasks_above x)) (collect_small p) (collect_small (λ k. member k waiting && member k (tasks_above x)))
    (λ k l.
    collected p k l
    ∙ ap (λ (b : Bool). b && eqb (get_or x.higher k 0) 1) (ap (member k) f ∙ collected (λ k. member k waiting && member k x.tasks) k l)
    ∙ grouped (member k waiting) (member k x.tasks) (eqb (get_or x.higher k 0) 1)
    ∙ ap (λ (b : Bool). member k waiting && b) (sym (collected (λ k. member k x.tasks && eqb (get_or x.higher k 0) 1) k l))
    ∙ sym (collected (λ k. member k waiting && member k (tasks_above x)) k l))
    ∙ of_those ranks n present waiting e
  where
    grouped : (a b c : Bool) → ((a && b) && c) ≡ (a && (b && c))
    grouped true b c = refl
    grouped false b c = refl

-- ---- one job alone that waits, where it is not higher

module _ (m : Memory) (r : Registers) (n : ℕ) (low : outranks (state_in m r) r.task (as_task n) ≡ false) where
  below : (k : ℕ) → k < 32 → eqb k n ≡ true → ltb (get_or m.table.priority k 0) (get_or m.table.priority r.task 0) ≡ false
  unfolding state_in
  below k l e =
      ap (λ (i : ℕ). ltb (get_or m.table.priority i 0) (get_or m.table.priority r.task 0)) (eqb-true k n e)
      ∙ sym (ap (outranks (state_in m r) r.task) there) ∙ low
    where
      there : as_task n ≡ Some n
      there = simp (lt-ltb n 32 (subst (λ (i : ℕ). i < 32) (eqb-true k n e) l))

  pub alone_blocks : {waiting : ℕ} → eqb r.processor 0 ≡ false → waiting ≡ awaiting_execution (copyin_in r) r.ready → waiting ≡ insert n 0
      → 0 ≡ blocks (state_in m r) (interval_in r)
  alone_blocks {waiting} f w e =
      some_blocks m r f w
      (sym (empty (higher_than m.table.priority r.task waiting) (few m.table.priority r.task 0 0 waiting)
      (λ k l.
      is_in m.table.priority r.task 0 0 waiting k l
      ∙ by-test (eqb k n)
      (λ h. rw (below k l h) (never (member k waiting)))
      (λ h. rw (e, inserted n 0 k l, h, none k)))))
    where
      never : (b : Bool) → (b && false) ≡ false
      never true = refl
      never false = refl
