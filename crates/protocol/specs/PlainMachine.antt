-- Document 01, "A plain machine keeps a list S of chunks and two numbers, D and A": it knows nothing of the ends.
use Rattle.std.specs.Prelude.{ℕ, zero, suc, ◌+◌, ◌-◌, ◌≡◌, Bool, true, false, cond, List, [], ◌∷◌, ◌++◌, length, get_or}
use Rattle.std.specs.Prelude.{ltb, leb, eqb}
use Rattle.protocol.specs.Runs.{lead, up_from}
use Rattle.protocol.specs.declared.ProtocolType.{ProtocolType}
use Rattle.protocol.specs.declared.ProtocolType.TheVariants.{StopAndWait, GoBackN, SelectiveRepeat}

-- the calls: a chunk to send, a timeout, Data of a number handed to the receiver, an ACK of a number handed to the
-- sender
pub data Call : Type 0 where
  send_chunk : List ℕ → Call
  handle_timeout : Call
  handle_data : ℕ → Call
  handle_ack : ℕ → Call

-- S, D and A; and, in Selective Repeat, the numbers noted at each end: number n is noted where entry n is true
pub record PlainState : Type 0 where
  pub sent : List (List ℕ)
  pub D : ℕ
  pub A : ℕ
  pub at_receiver : List Bool
  pub at_sender : List Bool

unfoldable pub plain_start : PlainState
plain_start = record { sent = []; D = 0; A = 0; at_receiver = []; at_sender = [] }

-- number n noted besides
abbrev pub note : List Bool → ℕ → List Bool
note [] zero = true ∷ []
note [] (suc n) = false ∷ note [] n
note (b ∷ marks) zero = true ∷ marks
note (b ∷ marks) (suc n) = b ∷ note marks n

abbrev pub with_d : PlainState → ℕ → PlainState
with_d s d = record { sent = s.sent; D = d; A = s.A; at_receiver = s.at_receiver; at_sender = s.at_sender }

abbrev pub with_a : PlainState → ℕ → PlainState
with_a s a = record { sent = s.sent; D = s.D; A = a; at_receiver = s.at_receiver; at_sender = s.at_sender }

-- D is the lowest number not noted at the receiver, A the lowest not noted at the sender
abbrev pub with_receiver : PlainState → List Bool → PlainState
with_receiver s marks = record { sent = s.sent; D = lead marks; A = s.A; at_receiver = marks; at_sender = s.at_sender }

abbrev pub with_sender : PlainState → List Bool → PlainState
with_sender s marks = record { sent = s.sent; D = s.D; A = lead marks; at_receiver = s.at_receiver; at_sender = marks }

unfoldable pub plain_send : PlainState → List ℕ → PlainState
plain_send s c = record {
  sent = s.sent ++ (c ∷ []);
  D = s.D;
  A = s.A;
  at_receiver = s.at_receiver;
  at_sender = s.at_sender;
}

unfoldable pub plain_data : ProtocolType → ℕ → PlainState → ℕ → PlainState
plain_data StopAndWait w s n = cond (eqb n s.D) (with_d s (s.D + 1)) s
plain_data GoBackN w s n = cond (eqb n s.D) (with_d s (s.D + 1)) s
plain_data SelectiveRepeat w s n = cond (ltb n (s.D + w)) (with_receiver s (note s.at_receiver n)) s

unfoldable pub plain_ack : ProtocolType → PlainState → ℕ → PlainState
plain_ack StopAndWait s n = cond (eqb n s.A) (with_a s (s.A + 1)) s
plain_ack GoBackN s n = cond (leb s.A n) (with_a s (n + 1)) s
plain_ack SelectiveRepeat s n = with_sender s (note s.at_sender n)

unfoldable pub plain_call : ProtocolType → ℕ → PlainState → Call → PlainState
plain_call p w s (send_chunk c) = plain_send s c
plain_call p w s handle_timeout = s
plain_call p w s (handle_data n) = plain_data p w s n
plain_call p w s (handle_ack n) = plain_ack p s n

-- a call as it is fed: without effect are those that were refused, met a full window or were handed a flipped copy
pub record Fed : Type 0 where
  pub call : Call
  pub effect : Bool

abbrev pub fed : Call → Bool → Fed
fed c b = record { call = c; effect = b }

unfoldable pub plain_step : ProtocolType → ℕ → PlainState → Fed → PlainState
plain_step p w s f = cond f.effect (plain_call p w s f.call) s

unfoldable pub plain_run : ProtocolType → ℕ → PlainState → List Fed → PlainState
plain_run p w s [] = s
plain_run p w s (f ∷ fs) = plain_run p w (plain_step p w s f) fs

-- outstanding: those after the first A that aren't noted at the sender, lowest first
abbrev pub not_noted : List Bool → List ℕ → List ℕ
not_noted marks [] = []
not_noted marks (n ∷ ns) = cond (get_or marks n false) (not_noted marks ns) (n ∷ not_noted marks ns)

unfoldable pub plain_outstanding : PlainState → List ℕ
plain_outstanding s = not_noted s.at_sender (up_from s.A (length s.sent - s.A))

-- Stop-and-Wait's window is 1
abbrev pub WindowFits : ProtocolType → ℕ → Type 0
WindowFits StopAndWait w = w ≡ 1
WindowFits GoBackN w = Unit {0}
WindowFits SelectiveRepeat w = Unit {0}

-- x stands first in a list
abbrev pub First : {X : Type 0} → X → List X → Type 0
First x [] = ⊥
First x (y ∷ ys) = x ≡ y
