-- `entries::put_choices` meets its contract: field by field, from byte 17 on. Assumes nothing.
use mathlib.Core.Path.{◌≡◌, sym, subst}
use mathlib.Core.List.{List, [], ◌∷◌, ◌++◌, append_assoc}
use Prim.Native.Nat.{ℕ, ◌≤◌}
use lib.ListN.{length, take, length-append}
use lib.Seq.{length-take-le}
use Rattle.entries.specs.Entries.{choice_bytes, task_byte}
use Rattle.entries.proofs.Laws.{Front, next, up_to, behind}
use borrow.Author.Rules.{rules}
use Rattle.entries.proofs.put_choices.Goals as goal

regroup : (p : List ℕ) (a b c d e f g : ℕ)
    → (((((((p ++ (a ∷ [])) ++ (b ∷ [])) ++ (c ∷ [])) ++ (d ∷ [])) ++ (e ∷ [])) ++ (f ∷ [])) ++ (g ∷ [])) ≡ p ++ (a ∷ b ∷ c ∷ d ∷ e ∷ f ∷ g ∷ [])
regroup p a b c d e f g = simp append_assoc

pub returns : goal.returns
unfolding choice_bytes
returns c =
    let a = c.args in
    let old = a.out.now in
    let long : 17 ≤ length old = search rules in
    let size = length-take-le 17 old long in
    let f1 = next (take 17 old) old old (a.e.half ∷ []) 17 (sym size) c.put_byte.new.out c.put_byte.ensures (up_to 17 old long) in
    let f2 = next ((take 17 old) ++ (a.e.half ∷ [])) old c.put_byte.new.out (task_byte a.e.task ∷ []) 18 (simp (length-append, size)) c.put_byte-2.new.out
    (rw c.task_byte.ensures at c.put_byte-2.ensures) f1 in
    let f3 = next (((take 17 old) ++ (a.e.half ∷ [])) ++ (task_byte a.e.task ∷ [])) old c.put_byte-2.new.out (a.e.work ∷ []) 19 (simp (length-append, size))
    c.put_byte-3.new.out c.put_byte-3.ensures f2 in
    let f4 = next ((((take 17 old) ++ (a.e.half ∷ [])) ++ (task_byte a.e.task ∷ [])) ++ (a.e.work ∷ [])) old c.put_byte-3.new.out (task_byte a.e.copiedout ∷ []) 20
    (simp (length-append, size)) c.put_byte-4.new.out (rw c.task_byte-2.ensures at c.put_byte-4.ensures) f3 in
    let f5 = next (((((take 17 old) ++ (a.e.half ∷ [])) ++ (task_byte a.e.task ∷ [])) ++ (a.e.work ∷ [])) ++ (task_byte a.e.copiedout ∷ [])) old
    c.put_byte-4.new.out (task_byte a.e.chosen ∷ []) 21 (simp (length-append, size)) c.put_byte-5.new.out
    (rw c.task_byte-3.ensures at c.put_byte-5.ensures) f4 in
    let f6 = next ((((((take 17 old) ++ (a.e.half ∷ [])) ++ (task_byte a.e.task ∷ [])) ++ (a.e.work ∷ [])) ++ (task_byte a.e.copiedout ∷ []))
    ++ (task_byte a.e.chosen ∷ [])) old c.put_byte-5.new.out (a.e.fate ∷ []) 22 (simp (length-append, size)) c.put_byte-6.new.out c.put_byte-6.ensures f5 in
    let f7 = next (((((((take 17 old) ++ (a.e.half ∷ [])) ++ (task_byte a.e.task ∷ [])) ++ (a.e.work ∷ [])) ++ (task_byte a.e.copiedout ∷ []))
    ++ (task_byte a.e.chosen ∷ [])) ++ (a.e.fate ∷ [])) old c.put_byte-6.new.out (task_byte a.e.promoted ∷ []) 23 (simp (length-append, size))
    c.put_byte-7.new.out (rw c.task_byte-4.ensures at c.put_byte-7.ensures) f6 in
    behind 17 (choice_bytes a.e) old c.put_byte-7.new.out long (subst (λ (x : List ℕ). Front x old c.put_byte-7.new.out) (regroup (take 17 old) _ _ _ _ _ _ _) f7)
