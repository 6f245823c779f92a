-- `rules::spacing::is_too_soon` meets its contract: by the release that waits, else by the task's last job, where there was one. Assumes nothing.
use Rattle.std.proofs.Common.{◌≡◌}
use Rattle.rules.specs.Types.{Bool, true, false, List, ℕ, Some, sym, ◌∙◌}
use lib.ListN.{get_or}
use Rattle.sets.specs.Sets.{member}
use Rattle.table.specs.Table.{spacing}
use Rattle.rules.specs.Instant.{previous_release, comes_sooner}
use Rattle.rules.specs.Registers.{state_in}
use Rattle.rules.specs.Kept.{kept, by_task, beside, read}
use Rattle.rules.proofs.spacing.is_too_soon.Goals as goal

module _ (t n : ℕ) (times sets codes priority columns release blocked waits : List ℕ) where
  Soon : Bool → Type 0
  Soon x = x ≡ comes_sooner t (spacing columns n) (previous_release (read (kept times sets codes) (beside priority columns (by_task release blocked waits))) n)

  by_waiting : {x : Bool} {s last : ℕ} → member n (get_or sets 5 0) ≡ true → s ≡ spacing columns n → last ≡ get_or waits n 0 → x ≡ comes_sooner t s (Some last) → Soon x
  unfolding Soon previous_release state_in
  by_waiting w s l e = e ∙ rw (w, s, l)

  by_job : {x : Bool} {s last : ℕ} → member n (get_or sets 5 0) ≡ false → member n (get_or sets 7 0) ≡ true → s ≡ spacing columns n → last ≡ get_or release n 0 → x ≡ comes_sooner t s (Some last) → Soon x
  unfolding Soon previous_release state_in
  by_job w b s l e = e ∙ rw (w, b, s, l)

  by_none : member n (get_or sets 5 0) ≡ false → member n (get_or sets 7 0) ≡ false → Soon false
  unfolding Soon previous_release state_in
  by_none w b = rw (w, b)

pub returns-then-contains : goal.returns-then-contains
unfolding Soon
returns-then-contains c times codes priority blocked =
    let a = c.args in
    by_waiting a.t a.n times a.sets.now codes priority a.columns.now a.release.now blocked a.waits.now
    (sym c.contains.ensures ∙ c.if-contains.true) c.spacing-spacing.ensures c.value_of.ensures c.comes_sooner.ensures

pub returns-then-contains-2 : goal.returns-then-contains-2
unfolding Soon
returns-then-contains-2 c times codes priority blocked =
    let a = c.args in
    by_job a.t a.n times a.sets.now codes priority a.columns.now a.release.now blocked a.waits.now
    (sym c.contains.ensures ∙ c.if-contains.false) (sym c.contains-2.ensures ∙ c.if-contains-2.true)
    c.spacing-spacing.ensures c.value_of-then-contains-2.ensures c.comes_sooner-then-contains-2.ensures

pub returns : goal.returns
unfolding Soon
returns c times codes priority blocked =
    let a = c.args in
    by_none a.t a.n times a.sets.now codes priority a.columns.now a.release.now blocked a.waits.now
    (sym c.contains.ensures ∙ c.if-contains.false) (sym c.contains-2.ensures ∙ c.if-contains-2.false)
