-- Document 01, demand 3, over the exports, with drains between the calls.
use Rattle.std.specs.Prelude.{◌<◌, length, take}
use Rattle.delivery.specs.Calls.{World}
use Rattle.host_answer.specs.Answer.{value_limit, value_in}
use Rattle.host_answer.specs.Exit.{WordsExit}
use Rattle.host_drain.specs.Drain.{drain}
use Rattle.host_drain.specs.Calls.{drainable, Draining, drain_start}
use Rattle.host_delivery.specs.Host.{HostReceiver, is_done, host_ends, Setup, made_ends}

abbrev pub drain_of : HostReceiver → WordsExit
drain_of h = drain h.words h.store h.output

-- of an output of fewer than 2^56 bytes; a host takes as many bytes as are answered
abbrev pub host_draining : Draining host_ends
host_draining = record {
  Asks = λ h. length h.output < value_limit;
  is_done = λ h. is_done (drain_of h).answer;
  taken = λ h. take (value_in (drain_of h).answer) h.output;
  emptied = λ h next. record { words = (drain_of h).words; store = h.store; output = next };
}

abbrev pub made_drainable : Setup → World (drainable host_ends)
made_drainable s = drain_start (made_ends s)
