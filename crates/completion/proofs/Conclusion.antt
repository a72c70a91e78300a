-- Demand 3 of a run's ends, by the list of calls that leads to them.
use Prim.Native.Nat.{ℕ, ◌≤◌}
use mathlib.Core.Path.{◌≡◌, refl, sym, ap, ◌∙◌, subst}
use mathlib.Core.Bool.{Bool, true, false}
use mathlib.Core.List.{List, flatten}
use native.Mathlib.Omega.{arith}
use lib.Dec.{ltb}
use borrow.Author.Tests.{ltb-true, ltb-false}
use lib.ListN.{length, take, drop, length-take, length-drop, drop_of_length-le}
use lib.Seq.{take_all, take-take}
use Rattle.protocol.specs.declared.ProtocolType.{ProtocolType}
use Rattle.protocol.specs.declared.ProtocolType.TheVariants.{StopAndWait, GoBackN, SelectiveRepeat}
use Rattle.chunks.proofs.Laws.{chunks_joined}
use Rattle.delivery.specs.Ends.{ends, fresh_ends}
use Rattle.path.specs.Direction.{Direction}
use Rattle.session.specs.Sending.{SenderEnd}
use Rattle.session.specs.Receiving.{ReceiverEnd, filled}
use Rattle.session.proofs.Laws.{sender_base_is, receiver_base_is, output_is, unwritten_is}
use Rattle.completion.specs.Delivered.{delivered_to, acknowledged_to, written, behind, FirstDelivered}
use Rattle.completion.proofs.Reached.{Start, chunks_in, RunWorld, start_world, plain_of, led_claim}
use Rattle.completion.proofs.Follows.{first_few, FollowsIn, Follows, next_number_is}

-- at the start all of the output is behind the fill mark
all_behind : (p : ProtocolType) (w limit : ℕ) (sending receiving output : List ℕ) → (ends p).unwritten (fresh_ends p w limit sending receiving output).receiver ≡ output
all_behind StopAndWait w limit sending receiving output = refl
all_behind GoBackN w limit sending receiving output = refl
all_behind SelectiveRepeat w limit sending receiving output = refl

-- what lies behind a mark: the mark may stand behind the end of both
behind_mark : (n : ℕ) (output before : List ℕ) → drop n output ≡ drop (length (take n output)) before → drop n output ≡ drop n before
behind_mark n output before e = go (ltb (length output) n) refl
  where
    go : (b : Bool) → ltb (length output) n ≡ b → drop n output ≡ drop n before
    go false t =
        let h = ltb-false (length output) n t in
        let k = length-take n output in
        let m : length (take n output) ≡ n = omega (arith, k, h) in
        e ∙ ap (λ (i : ℕ). drop i before) m
    go true t =
        let h = ltb-true (length output) n t in
        let none = drop_of_length-le output {i = n} (omega (arith, h)) in
        let k = length-take n output in
        let l = ap length (sym none ∙ e) ∙ length-drop (length (take n output)) before in
        none ∙ sym (drop_of_length-le before {i = n} (omega (arith, k, l, h)))

module _ {s : Start} {u : RunWorld s} {v : SenderEnd} {r : ReceiverEnd} {output : List ℕ} {forward reverse : Direction} (f : FollowsIn s u v r output forward reverse) where
  delivered_in : FirstDelivered (chunks_in s) s.window s.output v r output
  delivered_in =
      let p = s.protocol in
      let c = led_claim f.begun.made f.led in
      let S = f.sent in
      let D : delivered_to r ≡ (plain_of s f.led.reached.calls).D = ap delivered_to (sym f.receiver) ∙ sym (receiver_base_is p s.receiving u.receiver) ∙ c.receiver_base in
      let A : acknowledged_to v ≡ (plain_of s f.led.reached.calls).A = ap acknowledged_to (sym f.sender) ∙ sym (sender_base_is p u.sender) ∙ c.sender_base in
      let n = next_number_is f in
      let few = first_few f.first in
      let k : (plain_of s f.led.reached.calls).D ≤ length S = subst (λ (l : List (List ℕ)). (plain_of s f.led.reached.calls).D ≤ length l) f.led.sent_is c.within_sent in
      let reading : (ends p).output u.receiver ≡ written r output = output_is p s.receiving u.receiver ∙ rw (f.receiver, f.output_is) refl in
      let rest : (ends p).unwritten u.receiver ≡ behind r output = unwritten_is p s.receiving u.receiver ∙ rw (f.receiver, f.output_is) refl in
      let first : written r output ≡ flatten (take (delivered_to r) (chunks_in s)) =
      sym reading ∙ c.first_delivered
      ∙ ap (λ (l : List (List ℕ)). flatten (take (plain_of s f.led.reached.calls).D l)) (f.led.sent_is ∙ f.first.is)
      ∙ ap flatten (take-take (plain_of s f.led.reached.calls).D (length S) (chunks_in s) k)
      ∙ ap (λ (i : ℕ). flatten (take i (chunks_in s))) (sym D) in
      let not_negative = c.not_negative in
      let in_window = c.in_window in
      record {
        few = omega (arith, D, k, few);
        sent = omega (arith, D, k, n);
        first_written = first;
        nothing_else =
            behind_mark (filled r.receiver) output s.output
            (sym rest ∙ c.nothing_else_written ∙ ap (λ (x : List ℕ). drop (length x) ((ends p).unwritten (start_world s).receiver)) reading ∙ ap (drop (length (written r output))) (all_behind p s.window s.limit s.sending s.receiving s.output));
        not_negative = omega (arith, D, A, not_negative);
        in_window = omega (arith, D, A, in_window);
        all_written = λ h. first ∙ ap flatten (take_all (delivered_to r) (chunks_in s) h);
      }

-- of the ends of a run
pub first_delivered : {s : Start} {v : SenderEnd} {r : ReceiverEnd} {output : List ℕ} {forward reverse : Direction} → Follows s v r output forward reverse → FirstDelivered (chunks_in s) s.window s.output v r output
first_delivered f = delivered_in f.holds

-- with all chunks delivered, what was written is the file
pub file_written : {s : Start} {v : SenderEnd} {r : ReceiverEnd} {output : List ℕ} {forward reverse : Direction} → Follows s v r output forward reverse → length (chunks_in s) ≤ delivered_to r → written r output ≡ s.file
file_written {s} f h = (first_delivered f).all_written h ∙ chunks_joined s.size s.file f.holds.begun.some
