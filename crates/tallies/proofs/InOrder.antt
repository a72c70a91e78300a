-- Stop-and-Wait and Go-Back-N receivers: each call's reading is counted.
use Rattle.std.specs.Prelude.{Option}
use Prim.Native.Nat.{ℕ, suc, ◌+◌}
use mathlib.Core.Path.{◌≡◌, refl, ap, ◌∙◌}
use mathlib.Core.Bool.{Bool, true, false, cond, not, ◌&&◌}
use mathlib.Core.List.{List, [], ◌∷◌}
use native.Mathlib.Omega.{arith}
use borrow.Author.Tests.{eqb-true, le-ltb}
use lib.ListN.{length}
use lib.Dec.{ltb, eqb}
use Rattle.packet.specs.Reading.{payload_of}
use Rattle.receiver.specs.Reading.{read_packet}
use Rattle.receiver.specs.declared.PacketReading.{PacketReading}
use Rattle.receiver.specs.declared.PacketReading.TheVariants as reading
use Rattle.stop_and_wait.specs.Receiver as stop_and_wait
use Rattle.stop_and_wait.specs.declared.StopAndWaitReceiver.{StopAndWaitReceiver}
use Rattle.go_back_n.specs.Receiver as go_back_n
use Rattle.go_back_n.specs.declared.GoBackNReceiver.{GoBackNReceiver}
use Rattle.tallies.specs.Readings.{count, is_corrupted, expected, is_older, is_out_of_order, is_answered_again}
use Rattle.tallies.specs.Receivers.{Call, after_calls, readings, stop_and_wait_after, go_back_nAfter}
use Rattle.tallies.proofs.Receivers.{EachReadingCounted, every_list, one_call}

pub plus_one : (n : ℕ) → n + 1 ≡ suc n
plus_one n = omega arith

-- ---- Stop-and-Wait
not_older : (n e : ℕ) → eqb n e ≡ true → ltb n e ≡ false
not_older n e p = let q : n ≡ e = eqb-true n e p in le-ltb n e (omega arith)

stop_and_wait_data : (e f l d k mark : ℕ) (x y z : Option ℕ) (same older : Bool) → (same ≡ true → older ≡ false)
    → stop_and_wait.with_mark
    (cond same (stop_and_wait.decided (stop_and_wait.state (e + 1) f (l + 1) d k) true x)
    (cond older (stop_and_wait.decided (stop_and_wait.state e f (l + 1) (d + 1) k) false y) (stop_and_wait.decided (stop_and_wait.state e f (l + 1) d k) false z))
    ).receiver mark
    ≡ stop_and_wait.state (cond same (e + 1) e) mark (suc l) (cond older (suc d) d) k
stop_and_wait_data e f l d k mark x y z true older h = rw (h refl, plus_one l)
stop_and_wait_data e f l d k mark x y z false true h = rw (plus_one l, plus_one d)
stop_and_wait_data e f l d k mark x y z false false h = rw (plus_one l)

stop_and_wait_one : (hs : List PacketReading) (filled mark : ℕ) (h : PacketReading) → stop_and_wait.with_mark (stop_and_wait.decision (stop_and_wait_after hs filled) h).receiver mark ≡ stop_and_wait_after (h ∷ hs) mark
unfolding expected count stop_and_wait.decision stop_and_wait.data_decision
stop_and_wait_one hs filled mark (reading.Data n) =
    stop_and_wait_data (expected hs) filled (length hs) (count is_older hs) (count (λ earlier. is_corrupted) hs) mark _ _ _ (eqb n (expected hs)) (ltb n (expected hs)) (not_older n (expected hs))
stop_and_wait_one hs filled mark (reading.Fin n) = rw (plus_one (length hs))
stop_and_wait_one hs filled mark reading.Ack = rw (plus_one (length hs))
stop_and_wait_one hs filled mark reading.Corrupted = rw (plus_one (length hs), plus_one (count (λ earlier. is_corrupted) hs))

abbrev pub stop_and_wait_counted : List PacketReading → StopAndWaitReceiver → Type 0
stop_and_wait_counted hs r = r ≡ stop_and_wait_after hs r.filled

pub stop_and_wait_each : EachReadingCounted stop_and_wait.handle_packet stop_and_wait_counted
unfolding expected count
stop_and_wait_each =
    λ hs r e raw output ack. one_call stop_and_wait_counted hs (stop_and_wait.reception r (read_packet raw) (payload_of raw) output) raw output ack e
    (λ k n. ap (λ (q : StopAndWaitReceiver). stop_and_wait.with_mark (stop_and_wait.decision q (read_packet raw)).receiver n) e ∙ stop_and_wait_one hs r.filled n (read_packet raw))

pub stop_and_wait_receiver : (cs : List Call)
    → after_calls stop_and_wait.handle_packet stop_and_wait.new_receiver cs
    ≡ stop_and_wait_after (readings stop_and_wait.handle_packet stop_and_wait.new_receiver cs) (after_calls stop_and_wait.handle_packet stop_and_wait.new_receiver cs).filled
unfolding expected count
stop_and_wait_receiver cs =
    every_list stop_and_wait.handle_packet stop_and_wait_counted stop_and_wait_each [] stop_and_wait.new_receiver refl cs

-- ---- Go-Back-N
go_back_n_data : (e f l d k mark : ℕ) (x y z : Option ℕ) (same first : Bool)
    → go_back_n.with_mark
    (cond same (go_back_n.decided (go_back_n.state (e + 1) f (l + 1) d k) true x)
    (cond first (go_back_n.decided (go_back_n.state e f (l + 1) (d + 1) k) false y) (go_back_n.decided (go_back_n.state e f (l + 1) (d + 1) (k + 1)) false z))
    ).receiver mark
    ≡ go_back_n.state (cond same (e + 1) e) mark (suc l) (cond (not same) (suc d) d) (cond (not same && not first) (suc k) k)
go_back_n_data e f l d k mark x y z true first = rw (plus_one l)
go_back_n_data e f l d k mark x y z false true = rw (plus_one l, plus_one d)
go_back_n_data e f l d k mark x y z false false = rw (plus_one l, plus_one d, plus_one k)

go_back_n_one : (hs : List PacketReading) (filled mark : ℕ) (h : PacketReading) → go_back_n.with_mark (go_back_n.decision (go_back_nAfter hs filled) h).receiver mark ≡ go_back_nAfter (h ∷ hs) mark
unfolding expected count go_back_n.decision go_back_n.data_decision
go_back_n_one hs filled mark (reading.Data n) =
    go_back_n_data (expected hs) filled (length hs) (count is_out_of_order hs) (count is_answered_again hs) mark _ _ _ (eqb n (expected hs)) (eqb (expected hs) 0)
go_back_n_one hs filled mark (reading.Fin n) = rw (plus_one (length hs))
go_back_n_one hs filled mark reading.Ack = rw (plus_one (length hs))
go_back_n_one hs filled mark reading.Corrupted = rw (plus_one (length hs))

abbrev pub go_back_nCounted : List PacketReading → GoBackNReceiver → Type 0
go_back_nCounted hs r = r ≡ go_back_nAfter hs r.filled

pub go_back_n_each : EachReadingCounted go_back_n.handle_packet go_back_nCounted
unfolding expected count
go_back_n_each =
    λ hs r e raw output ack. one_call go_back_nCounted hs (go_back_n.reception r (read_packet raw) (payload_of raw) output) raw output ack e
    (λ k n. ap (λ (q : GoBackNReceiver). go_back_n.with_mark (go_back_n.decision q (read_packet raw)).receiver n) e ∙ go_back_n_one hs r.filled n (read_packet raw))

pub go_back_n_receiver : (cs : List Call)
    → after_calls go_back_n.handle_packet go_back_n.new_receiver cs ≡ go_back_nAfter (readings go_back_n.handle_packet go_back_n.new_receiver cs) (after_calls go_back_n.handle_packet go_back_n.new_receiver cs).filled
unfolding expected count
go_back_n_receiver cs =
    every_list go_back_n.handle_packet go_back_nCounted go_back_n_each [] go_back_n.new_receiver refl cs
