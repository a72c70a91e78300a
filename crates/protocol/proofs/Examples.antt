-- Traces that compute: loss, repetition, reordering, a flipped copy, a full window; and one resending.
use Rattle.std.specs.Prelude.{None}
use mathlib.Core.Path.{◌≡◌, refl}
use mathlib.Core.Bool.{true, false}
use mathlib.Core.List.Memᴰ
use mathlib.Core.List.{List, [], ◌∷◌}
use Prim.Native.Nat.{ℕ}
use native.Mathlib.Omega.{arith}
use Rattle.protocol.specs.Machine.{Segment, send, segments_from, acknowledge, receive}
use Rattle.protocol.specs.PlainMachine.{send_chunk, handle_data, handle_ack, plain_start, plain_send, plain_data, plain_ack, plain_call, plain_step, plain_run}
use Rattle.protocol.specs.Trace.{new_world, Event, sent, resent, received, acknowledged, other, step, run, Admissible, plain_after, outstanding, ResendsAll}
use Rattle.protocol.specs.KuroseRoss.{Packet}
use Rattle.protocol.specs.KuroseRossRuns.{book, new_book_world, book_run, WorldIs, AllLikeBook}
use Rattle.protocol.specs.declared.ProtocolType.TheVariants.{StopAndWait, GoBackN, SelectiveRepeat}
use Rattle.protocol.proofs.KuroseRossRuns.{like_book}

abbrev q0 : Segment
q0 = record { number = 0; payload = 7 ∷ [] }

abbrev q1 : Segment
q1 = record { number = 1; payload = 8 ∷ 9 ∷ [] }

abbrev q2 : Segment
q2 = record { number = 2; payload = [] }

-- Three chunks, the window of 2 full before the third. Segment 0 is lost at first and its flipped copy ignored; 1 comes before 0, and 0
-- comes twice. Selective Repeat holds 1, and acknowledges each number alone; the ACK of 0 is lost.
abbrev selective : List Event
selective =
    sent (7 ∷ []) ∷ sent (8 ∷ 9 ∷ []) ∷ other (send_chunk []) ∷ other (handle_data 0) ∷ received q1 ∷ acknowledged 1 ∷ resent 0 1 ∷ received q0 ∷ received q0
    ∷ []

selective_run : run SelectiveRepeat 2 (new_world SelectiveRepeat 2) selective
    ≡ record {
      sender = record { base = 0; chunks = (7 ∷ []) ∷ (8 ∷ 9 ∷ []) ∷ []; acknowledged = false ∷ true ∷ [] };
      receiver = record { base = 2; held = None ∷ None ∷ [] };
      delivered = (7 ∷ []) ∷ (8 ∷ 9 ∷ []) ∷ [];
      segments = q0 ∷ q1 ∷ q0 ∷ [];
      acks = 1 ∷ 0 ∷ 0 ∷ [];
    }
unfolding run step new_world send segments_from acknowledge receive
selective_run = refl

selective_plain : plain_after SelectiveRepeat 2 selective
    ≡ record { sent = (7 ∷ []) ∷ (8 ∷ 9 ∷ []) ∷ []; D = 2; A = 0; at_receiver = true ∷ true ∷ []; at_sender = false ∷ true ∷ [] }
unfolding plain_run plain_step plain_call plain_start plain_send plain_data plain_ack
selective_plain = refl

selective_fair : Admissible SelectiveRepeat 2 (new_world SelectiveRepeat 2) selective
unfolding run step new_world send segments_from acknowledge receive
selective_fair =
    (omega arith, (omega arith, (tt, (tt, (Memᴰ.tail (Memᴰ.head refl), (Memᴰ.head refl, ((omega arith, omega arith), (Memᴰ.head refl, (Memᴰ.head refl, tt)))))))))

-- number 0 is all that is outstanding
selective_resending : ResendsAll SelectiveRepeat 2 (run SelectiveRepeat 2 (new_world SelectiveRepeat 2) selective)
    (outstanding (run SelectiveRepeat 2 (new_world SelectiveRepeat 2) selective).sender) [] [] (resent 0 1 ∷ received q0 ∷ acknowledged 0 ∷ [])
unfolding outstanding run step new_world send segments_from acknowledge receive
selective_resending = (omega arith, refl, (refl, (refl, (refl, refl, refl))))

-- Go-Back-N: 1 comes before 0 and is discarded unanswered; 0 comes twice and is acknowledged twice; 2 is lost; a timeout sends all again,
-- and then 1 and 2 come. One ACK of 0 reaches the sender, a second copy of it is ignored; the ACKs of 1 and 2 are lost.
abbrev go_back : List Event
go_back =
    sent (7 ∷ []) ∷ sent (8 ∷ 9 ∷ []) ∷ sent [] ∷ received q1 ∷ received q0 ∷ received q0 ∷ resent 0 3 ∷ received q1 ∷ received q2 ∷ acknowledged 0
    ∷ acknowledged 0 ∷ other (handle_ack 1) ∷ []

go_back_run : run GoBackN 3 (new_world GoBackN 3) go_back
    ≡ record {
      sender = record { base = 1; chunks = (8 ∷ 9 ∷ []) ∷ [] ∷ []; acknowledged = false ∷ false ∷ [] };
      receiver = record { base = 3; held = [] };
      delivered = (7 ∷ []) ∷ (8 ∷ 9 ∷ []) ∷ [] ∷ [];
      segments = q0 ∷ q1 ∷ q2 ∷ q0 ∷ q1 ∷ q2 ∷ [];
      acks = 0 ∷ 0 ∷ 1 ∷ 2 ∷ [];
    }
unfolding run step new_world send segments_from acknowledge receive
go_back_run = refl

go_back_plain : plain_after GoBackN 3 go_back ≡ record { sent = (7 ∷ []) ∷ (8 ∷ 9 ∷ []) ∷ [] ∷ []; D = 3; A = 1; at_receiver = []; at_sender = [] }
unfolding plain_run plain_step plain_call plain_start plain_send plain_data plain_ack
go_back_plain = refl

go_back_fair : Admissible GoBackN 3 (new_world GoBackN 3) go_back
unfolding run step new_world send segments_from acknowledge receive
go_back_fair =
    (omega arith, (omega arith, (omega arith, (Memᴰ.tail (Memᴰ.head refl), (Memᴰ.head refl, (Memᴰ.head refl, ((omega arith, omega arith), (Memᴰ.tail (Memᴰ.head refl), (Memᴰ.tail (Memᴰ.tail (Memᴰ.head refl)), (Memᴰ.head refl, (Memᴰ.head refl, (tt, tt))))))))))))

-- the whole window sent again; segments and ACKs carried in turn
go_back_resending : ResendsAll GoBackN 3 (run GoBackN 3 (new_world GoBackN 3) go_back) (outstanding (run GoBackN 3 (new_world GoBackN 3) go_back).sender) [] []
    (resent 1 2 ∷ received q1 ∷ acknowledged 2 ∷ received q2 ∷ acknowledged 2 ∷ [])
unfolding outstanding run step new_world send segments_from acknowledge receive
go_back_resending = (omega arith, refl, (refl, (refl, (refl, (refl, (refl, refl, refl))))))

-- the earliest alone sent again: its ACK is of 2, and nothing is outstanding any more
go_back_earliest : ResendsAll GoBackN 3 (run GoBackN 3 (new_world GoBackN 3) go_back) (outstanding (run GoBackN 3 (new_world GoBackN 3) go_back).sender) [] []
    (resent 1 1 ∷ received q1 ∷ acknowledged 2 ∷ [])
unfolding outstanding run step new_world send segments_from acknowledge receive
go_back_earliest = (omega arith, refl, (refl, (refl, (refl, refl, refl))))

-- Stop-and-Wait: the ACK of 0 is lost, the timeout's copy is acknowledged again; then chunk 1, while old copies of 0 still come.
abbrev stop_and_wait : List Event
stop_and_wait =
    sent (7 ∷ []) ∷ received q0 ∷ resent 0 1 ∷ received q0 ∷ acknowledged 0 ∷ sent (8 ∷ 9 ∷ []) ∷ received q0 ∷ acknowledged 0 ∷ received q1 ∷ []

stop_and_wait_run : run StopAndWait 1 (new_world StopAndWait 1) stop_and_wait
    ≡ record {
      sender = record { base = 1; chunks = (8 ∷ 9 ∷ []) ∷ []; acknowledged = false ∷ [] };
      receiver = record { base = 2; held = [] };
      delivered = (7 ∷ []) ∷ (8 ∷ 9 ∷ []) ∷ [];
      segments = q0 ∷ q0 ∷ q1 ∷ [];
      acks = 0 ∷ 0 ∷ 0 ∷ 1 ∷ [];
    }
unfolding run step new_world send segments_from acknowledge receive
stop_and_wait_run = refl

stop_and_wait_plain : plain_after StopAndWait 1 stop_and_wait ≡ record { sent = (7 ∷ []) ∷ (8 ∷ 9 ∷ []) ∷ []; D = 2; A = 1; at_receiver = []; at_sender = [] }
unfolding plain_run plain_step plain_call plain_start plain_send plain_data plain_ack
stop_and_wait_plain = refl

stop_and_wait_fair : Admissible StopAndWait 1 (new_world StopAndWait 1) stop_and_wait
unfolding run step new_world send segments_from acknowledge receive
stop_and_wait_fair =
    (omega arith, (Memᴰ.head refl, ((omega arith, omega arith), (Memᴰ.head refl, (Memᴰ.head refl, (omega arith, (Memᴰ.head refl, (Memᴰ.head refl, (Memᴰ.tail (Memᴰ.tail (Memᴰ.head refl)), tt)))))))))

stop_and_wait_resending : ResendsAll StopAndWait 1 (run StopAndWait 1 (new_world StopAndWait 1) stop_and_wait)
    (outstanding (run StopAndWait 1 (new_world StopAndWait 1) stop_and_wait).sender) [] [] (resent 1 1 ∷ received q1 ∷ acknowledged 1 ∷ [])
unfolding outstanding run step new_world send segments_from acknowledge receive
stop_and_wait_resending = (omega arith, refl, (refl, (refl, (refl, refl, refl))))

-- ---- lists in which Stop-and-Wait and Go-Back-N do what the book's ends do

stop_and_wait_like_book : AllLikeBook StopAndWait 1 (new_world StopAndWait 1) stop_and_wait
unfolding step new_world send segments_from acknowledge receive
stop_and_wait_like_book =
    (tt, (λ e. refl, ((refl, refl), (λ e. e, (λ some e. refl, (tt, (λ e. e, (λ some e. e, (λ e. refl, tt)))))))))

stop_and_wait_book : (f : ℕ → Packet) → WorldIs StopAndWait 1 (book_run (book StopAndWait 1) (new_book_world (book StopAndWait 1) f) stop_and_wait) (run StopAndWait 1 (new_world StopAndWait 1) stop_and_wait)
stop_and_wait_book f = like_book StopAndWait 1 f stop_and_wait refl stop_and_wait_fair stop_and_wait_like_book

-- as `go_back`, without the segment before the first
abbrev go_back_in_order : List Event
go_back_in_order =
    sent (7 ∷ []) ∷ sent (8 ∷ 9 ∷ []) ∷ sent [] ∷ received q0 ∷ received q0 ∷ resent 0 3 ∷ received q1 ∷ received q2 ∷ acknowledged 0 ∷ acknowledged 0
    ∷ other (handle_ack 1) ∷ []

go_back_in_order_fair : Admissible GoBackN 3 (new_world GoBackN 3) go_back_in_order
unfolding run step new_world send segments_from acknowledge receive
go_back_in_order_fair =
    (omega arith, (omega arith, (omega arith, (Memᴰ.head refl, (Memᴰ.head refl, ((omega arith, omega arith), (Memᴰ.tail (Memᴰ.head refl), (Memᴰ.tail (Memᴰ.tail (Memᴰ.head refl)), (Memᴰ.head refl, (Memᴰ.head refl, (tt, tt)))))))))))

go_back_in_order_like_book : AllLikeBook GoBackN 3 (new_world GoBackN 3) go_back_in_order
unfolding step new_world send segments_from acknowledge receive
go_back_in_order_like_book = (tt, (tt, (tt, (λ e. refl, (λ e. refl, ((refl, refl), (λ e. e, (λ e. e, (omega arith, (omega arith, (tt, tt)))))))))))

go_back_in_order_book : (f : ℕ → Packet) → WorldIs GoBackN 3 (book_run (book GoBackN 3) (new_book_world (book GoBackN 3) f) go_back_in_order) (run GoBackN 3 (new_world GoBackN 3) go_back_in_order)
go_back_in_order_book f = like_book GoBackN 3 f go_back_in_order tt go_back_in_order_fair go_back_in_order_like_book
