-- `call_entries::answer` meets its contract: by the entry. Assumes nothing.
use mathlib.Core.Path.{ap, ap₂, ◌∙◌}
use Rattle.std.specs.Prelude.{Ok}
use Rattle.lines.specs.Lines.{instant_lines, mark_lines}
use Rattle.lines.specs.Text.{text_of}
use Rattle.lines.specs.declared.Text.{Text}
use Rattle.rules.specs.Calls.{MarkStep}
use Rattle.rules.specs.Tickets.{Ticketed, TicketedStep}
use Rattle.dispatcher.proofs.Numbered.{ticketed, mark_ticketed, marks_ticketed}
use Rattle.call_entries.specs.Calls.{Reply}
use Rattle.call_entries.proofs.answer.Goals as goal

abbrev reply : Ticketed → Text → Reply
reply d t = record { left = d; text = t }

pub returns-in-InstantCall : goal.returns-in-InstantCall
returns-in-InstantCall c =
    let step = c.instant-step in
    let text = c.instant_text.ensures in
    let is = ticketed _ _ _ _ step.ensures in
    rw (c.in-Ok.is ∙ ap Ok c.in-InstantCall.is)
    (record {
      reply_is = ap₂ reply (ap (λ (s : TicketedStep). s.left) is) (text.whole ∙ ap (λ (s : TicketedStep). text_of (instant_lines s.answer)) is);
      fits = text.fits;
      untouched = step.ensures.untouched;
    })

pub returns-in-MarkCall : goal.returns-in-MarkCall
returns-in-MarkCall c =
    let step = c.mark-step in
    let text = c.mark_text.ensures in
    rw (c.in-Ok.is ∙ ap Ok c.in-MarkCall.is)
    (record {
      reply_is = ap₂ reply (mark_ticketed _ _ _ _ step.ensures) (text.whole ∙ ap (λ (s : MarkStep). text_of (mark_lines s.answer)) step.ensures.step);
      fits = text.fits;
      untouched = step.ensures.untouched;
    })

pub returns-in-MarksCall : goal.returns-in-MarksCall
returns-in-MarksCall c =
    let step = c.mark_all-step in
    let text = c.mark_text-in-MarksCall.ensures in
    rw (c.in-Ok.is ∙ ap Ok c.in-MarksCall.is)
    (record {
      reply_is = ap₂ reply (marks_ticketed _ _ _ _ step.ensures) (text.whole ∙ ap (λ (s : MarkStep). text_of (mark_lines s.answer)) step.ensures.step);
      fits = text.fits;
      untouched = step.ensures.untouched;
    })
