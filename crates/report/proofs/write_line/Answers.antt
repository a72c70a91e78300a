use Rattle.text.proofs.Laws.{rest_room, rest_last, piece_room, piece_next}
use Rattle.report.proofs.Lines.{line_first, seq_column, sent_column, delay1_column, delay2_column, fold1_column, fold2_column}
use Rattle.report.proofs.Lines.{from_sent, from_delay1, from_delay2, from_fold1, from_fold2, from_margin}
use Rattle.report.proofs.write_line.Goals as goal

pub write_right_unchecked-a-requires : goal.write_right_unchecked-a-requires
write_right_unchecked-a-requires c = let row = c.args.row in
    let r1 = line_first row c.args.out.now c.args.at c.requires in
    piece_room (seq_column row) (from_sent row) r1

pub write_sent-b-requires : goal.write_sent-b-requires
write_sent-b-requires c = let row = c.args.row in
    let r1 = line_first row c.args.out.now c.args.at c.requires in
    let e1 = c.write_right_unchecked-a.ensures in
    let r2 = piece_next (seq_column row) (from_sent row) r1 e1.0 e1.1 in
    piece_room (sent_column row) (from_delay1 row) r2

pub write_copy-c-requires : goal.write_copy-c-requires
write_copy-c-requires c = let row = c.args.row in
    let r1 = line_first row c.args.out.now c.args.at c.requires in
    let e1 = c.write_right_unchecked-a.ensures in
    let r2 = piece_next (seq_column row) (from_sent row) r1 e1.0 e1.1 in
    let e2 = c.write_sent-b.ensures in
    let r3 = piece_next (sent_column row) (from_delay1 row) r2 e2.0 e2.1 in
    piece_room (delay1_column row) (from_delay2 row) r3

pub write_copy-d-requires : goal.write_copy-d-requires
write_copy-d-requires c = let row = c.args.row in
    let r1 = line_first row c.args.out.now c.args.at c.requires in
    let e1 = c.write_right_unchecked-a.ensures in
    let r2 = piece_next (seq_column row) (from_sent row) r1 e1.0 e1.1 in
    let e2 = c.write_sent-b.ensures in
    let r3 = piece_next (sent_column row) (from_delay1 row) r2 e2.0 e2.1 in
    let e3 = c.write_copy-c.ensures in
    let r4 = piece_next (delay1_column row) (from_delay2 row) r3 e3.0 e3.1 in
    piece_room (delay2_column row) (from_fold1 row) r4

pub write_copy-e-requires : goal.write_copy-e-requires
write_copy-e-requires c = let row = c.args.row in
    let r1 = line_first row c.args.out.now c.args.at c.requires in
    let e1 = c.write_right_unchecked-a.ensures in
    let r2 = piece_next (seq_column row) (from_sent row) r1 e1.0 e1.1 in
    let e2 = c.write_sent-b.ensures in
    let r3 = piece_next (sent_column row) (from_delay1 row) r2 e2.0 e2.1 in
    let e3 = c.write_copy-c.ensures in
    let r4 = piece_next (delay1_column row) (from_delay2 row) r3 e3.0 e3.1 in
    let e4 = c.write_copy-d.ensures in
    let r5 = piece_next (delay2_column row) (from_fold1 row) r4 e4.0 e4.1 in
    piece_room (fold1_column row) (from_fold2 row) r5

pub write_copy-f-requires : goal.write_copy-f-requires
write_copy-f-requires c = let row = c.args.row in
    let r1 = line_first row c.args.out.now c.args.at c.requires in
    let e1 = c.write_right_unchecked-a.ensures in
    let r2 = piece_next (seq_column row) (from_sent row) r1 e1.0 e1.1 in
    let e2 = c.write_sent-b.ensures in
    let r3 = piece_next (sent_column row) (from_delay1 row) r2 e2.0 e2.1 in
    let e3 = c.write_copy-c.ensures in
    let r4 = piece_next (delay1_column row) (from_delay2 row) r3 e3.0 e3.1 in
    let e4 = c.write_copy-d.ensures in
    let r5 = piece_next (delay2_column row) (from_fold1 row) r4 e4.0 e4.1 in
    let e5 = c.write_copy-e.ensures in
    let r6 = piece_next (fold1_column row) (from_fold2 row) r5 e5.0 e5.1 in
    piece_room (fold2_column row) (from_margin row) r6

pub write_word_unchecked-requires : goal.write_word_unchecked-requires
write_word_unchecked-requires c = let row = c.args.row in
    let r1 = line_first row c.args.out.now c.args.at c.requires in
    let e1 = c.write_right_unchecked-a.ensures in
    let r2 = piece_next (seq_column row) (from_sent row) r1 e1.0 e1.1 in
    let e2 = c.write_sent-b.ensures in
    let r3 = piece_next (sent_column row) (from_delay1 row) r2 e2.0 e2.1 in
    let e3 = c.write_copy-c.ensures in
    let r4 = piece_next (delay1_column row) (from_delay2 row) r3 e3.0 e3.1 in
    let e4 = c.write_copy-d.ensures in
    let r5 = piece_next (delay2_column row) (from_fold1 row) r4 e4.0 e4.1 in
    let e5 = c.write_copy-e.ensures in
    let r6 = piece_next (fold1_column row) (from_fold2 row) r5 e5.0 e5.1 in
    let e6 = c.write_copy-f.ensures in
    let r7 = piece_next (fold2_column row) (from_margin row) r6 e6.0 e6.1 in
    rest_room r7

pub returns : goal.returns
returns c = let row = c.args.row in
    let r1 = line_first row c.args.out.now c.args.at c.requires in
    let e1 = c.write_right_unchecked-a.ensures in
    let r2 = piece_next (seq_column row) (from_sent row) r1 e1.0 e1.1 in
    let e2 = c.write_sent-b.ensures in
    let r3 = piece_next (sent_column row) (from_delay1 row) r2 e2.0 e2.1 in
    let e3 = c.write_copy-c.ensures in
    let r4 = piece_next (delay1_column row) (from_delay2 row) r3 e3.0 e3.1 in
    let e4 = c.write_copy-d.ensures in
    let r5 = piece_next (delay2_column row) (from_fold1 row) r4 e4.0 e4.1 in
    let e5 = c.write_copy-e.ensures in
    let r6 = piece_next (fold1_column row) (from_fold2 row) r5 e5.0 e5.1 in
    let e6 = c.write_copy-f.ensures in
    let r7 = piece_next (fold2_column row) (from_margin row) r6 e6.0 e6.1 in
    let e7 = c.write_word_unchecked.ensures in rest_last r7 e7.0 e7.1
