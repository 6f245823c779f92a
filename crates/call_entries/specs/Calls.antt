-- Call entries, answered: the dispatcher after the call, and the call's lines.
use Rattle.std.specs.Prelude.{◌≡◌, ◌≤◌}
use Rattle.rules.specs.Calls.{refusal, mark_refusal, mark, marks_refusal, marks}
use Rattle.rules.specs.Tickets.{Ticketed, after_ticketed, instant_step, Enquiry, enquiry, commit_refusal, commit}
use Rattle.lines.specs.Lines.{instant_lines, enquiry_lines, mark_lines, cut_short_line}
use Rattle.lines.specs.Text.{text_of}
use Rattle.lines.specs.declared.Text.{Text}
use Rattle.dispatcher.specs.Dispatcher.{ticketed_of}
use Rattle.dispatcher.specs.declared.Dispatcher.{Dispatcher}
use Rattle.call_entries.specs.Types.{Mark, Marks, Result, Ok, Err, CallEntry, Unreadable, InstantCall, MarkCall, EnquiryCall, CommitCall, MarksCall, Answered}

pub record Reply : Type 0 where
  pub left : Ticketed
  pub text : Text

-- what is no whole call leaves the dispatcher as it is
abbrev pub answered : Ticketed → Result CallEntry Unreadable → Reply
answered d (Err e) = record { left = d; text = text_of cut_short_line }
answered d (Ok (InstantCall t set)) = record { left = (instant_step d t set).left; text = text_of (instant_lines (instant_step d t set).answer) }
answered d (Ok (MarkCall n m)) = record { left = after_ticketed d (Mark n m); text = text_of (mark_lines (mark d.state n m).answer) }
answered d (Ok (EnquiryCall t set)) =
    let e : Enquiry = enquiry d t set in record { left = d; text = text_of (enquiry_lines e.step.answer e.ticket) }
answered d (Ok (MarksCall set m)) =
    record { left = after_ticketed d (Marks set m); text = text_of (mark_lines (marks d.state set m).answer) }
answered d (Ok (CommitCall k t set)) = record { left = (commit d k t set).left; text = text_of (instant_lines (commit d k t set).answer) }

-- what is handed back, read as the rules have it
abbrev pub reply_of : Answered → Reply
reply_of a = record { left = ticketed_of a.state; text = a.text }

-- ---- What answering promises

-- what is no whole call, an enquiry and a call that is refused leave the dispatcher
abbrev pub NotServed : Ticketed → Result CallEntry Unreadable → Type 0
NotServed d (Err e) = Unit {0}
NotServed d (Ok (InstantCall t set)) = refusal d.state t set ≡ 0 → ⊥
NotServed d (Ok (MarkCall n m)) = mark_refusal d.state n m ≡ 0 → ⊥
NotServed d (Ok (EnquiryCall t set)) = Unit {0}
NotServed d (Ok (MarksCall set m)) = marks_refusal d.state set m ≡ 0 → ⊥
NotServed d (Ok (CommitCall k t set)) = commit_refusal d k t set ≡ 0 → ⊥

-- the reply, the most bytes that its lines take, and that a dispatcher that is not called is handed back as it was, and not only as the
-- rules read it
pub record AnswersWith (d : Dispatcher) (reply : Reply) (unserved : Type 0) (r : Answered) : Type 0 where
  pub reply_is : reply_of r ≡ reply
  pub fits : r.text.len ≤ 224
  pub untouched : unserved → r.state ≡ d
