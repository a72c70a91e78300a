-- Lines with no copy and with two, and the page of linkrun's one event for the byte 0x41.
use mathlib.Core.Path.{◌≡◌, refl}
use mathlib.Core.Bool.{false}
use mathlib.Core.List.{[], ◌∷◌, ◌++◌}
use Rattle.refusal.specs.Refusal.{ascii}
use Rattle.events.specs.Events.{ForwardEvent, event_of}
use Rattle.text.specs.Decimal.{digits_in, digits, right_in, left_in}
use Rattle.report.specs.Page.{aligned, line, head_line, sent_word, of_copy, event_line, event_lines, copy_count, repeat_count, last_line, page}

abbrev first : ForwardEvent
first = record { seq = 0; retransmission = false; delays = 5 ∷ []; folds = 510 ∷ [] }

pub record KnownValues : Type 0 where
  pub head : head_line ≡ ascii "       seqsent           delay1       delay2        fold1        fold2  \n"
  pub lost : event_line (event_of (7 ∷ 1 ∷ 0 ∷ 0 ∷ 0 ∷ 0 ∷ 0 ∷ []))
      ≡ ascii "         7again                                                         \n"
  pub twice : event_line (event_of (12 ∷ 0 ∷ 2 ∷ 5 ∷ 60 ∷ 300 ∷ 300 ∷ []))
      ≡ ascii "        12first               5           60          300          300  \n"
  pub one : page (first ∷ [])
      ≡ head_line
      ++ (ascii "         0first               5                       510               \n"
      ++ ascii "                       1                       1                       0\n")

pub known_values : KnownValues
unfolding digits_in digits right_in left_in event_of aligned line head_line sent_word of_copy event_line event_lines copy_count repeat_count last_line page
known_values = record { head = refl; lost = refl; twice = refl; one = refl }
