-- Demand 3 of a run for a host.
use Prim.Native.Nat.{ℕ, ◌+◌, ◌≤◌}
use native.Mathlib.Omega.{arith}
use mathlib.Core.Path.{◌≡◌, refl, sym, ap, ◌∙◌, subst}
use mathlib.Core.Bool.{Bool, true, false, cond}
use mathlib.Core.List.{List}
use lib.Dec.{eqb}
use lib.Ieee.{Float}
use Rattle.octets.specs.Octets.{Octets}
use Rattle.path.specs.Rolls.{Doubles}
use Rattle.clock.specs.Estimator.{Factors}
use Rattle.protocol.specs.declared.ProtocolType.{ProtocolType}
use Rattle.protocol.specs.declared.ProtocolType.TheVariants as protocol
use Rattle.channel.specs.declared.ChannelConfig.{ChannelConfig}
use Rattle.chunks.specs.Chunks.{chunks_of}
use Rattle.events.specs.Events.{ForwardEvent, events_of}
use Rattle.completion.specs.Flips.{FlipsOutside}
use Rattle.session.specs.Sending.{slot_count}
use Rattle.setup.specs.declared.TransferConfig.{TransferConfig}
use Rattle.step.specs.State.{Given, Lent}
use Rattle.transfer.specs.Transfer.{default_ceilings, RunExit}
use Rattle.transfer_delivery.specs.Delivered.{file_chunks, events_at, Delivered}
use Rattle.transfer_delivery.proofs.Laws.{transfer_delivered}
use Rattle.host_run.specs.Layout.{protocol_number, SetupAt}
use Rattle.host_run.specs.Run.{Results, HostRunExit, run}
use Rattle.host_run.specs.Made.{RunMade}
use Rattle.host_run.proofs.Fields.{channel_is}
use Rattle.host_run.proofs.Made.{run_made, run_else_refused}
use Rattle.host_run.proofs.Unchanged.{run_refused}
use Rattle.host_run_delivery.specs.Written.{completed_word, NoLengthFlips, HostDelivered, RunExact}

-- 1 says true
set_word : (b : Bool) → ◌≡◌ {A = ℕ} (cond b 1 0) 1 → b ≡ true
set_word true e = refl
set_word false e = absurd (omega arith)

window_is : (p : ProtocolType) {a b w : ℕ} → a ≡ protocol_number p → b ≡ w → cond (eqb a 1) 1 b ≡ slot_count p w
window_is protocol.StopAndWait e h = rw (e) refl
window_is protocol.GoBackN e h = rw (e) h
window_is protocol.SelectiveRepeat e h = rw (e) h

factors_in : {c : TransferConfig} {s : List ℕ} {d : List Float} → SetupAt c s d → Doubles d → Factors c.rto
factors_in h doubles =
    let long = h.doubles in
    record {
      alpha = rw (← h.alpha) (doubles.each 4 (omega (arith, long)));
      beta = rw (← h.beta) (doubles.each 5 (omega (arith, long)));
      k = rw (← h.k) (doubles.each 6 (omega (arith, long)));
      multiplier = rw (← h.rto_multiplier) (doubles.each 7 (omega (arith, long)));
    }

near : {a b w a' b' w' : ℕ} → a' ≡ a → b' ≡ b → w' ≡ w → b ≤ a + w → b' ≤ a' + w'
near p q r k = omega arith

flips_same : {a b : ChannelConfig} {rolls : List Float} {cs ds : List (List ℕ)} {es fs : List ForwardEvent} → a ≡ b → cs ≡ ds → es ≡ fs → FlipsOutside a rolls cs es → FlipsOutside b rolls ds fs
flips_same p q r f = rw (← p, ← q, ← r) f

-- Octets and Doubles say what the lent bytes and doubles are by their types
module _ (s : List ℕ) (d : List Float) (g : Given) (l : Lent) (x : Results) (store : Octets l.sender_store) (file : Octets g.file) (forward : Doubles g.forward_rolls) (reverse : Doubles g.reverse_rolls) (doubles : Doubles d) where
  made_delivered : (y : HostRunExit) (m : RunMade s d g l x y) → Delivered m.config g l m.outcome y.lent
  made_delivered y m =
      let c = m.config in
      let ran = ap (λ (z : RunExit). z.answer) m.ran in
      let left = ap (λ (z : RunExit). z.lent) m.ran in
      subst (λ (after : Lent). Delivered c g l m.outcome after) left
      (transfer_delivered default_ceilings c g l store file forward reverse (factors_in m.can_run.setup doubles) m.outcome ran)

  host_delivered : (y : HostRunExit) → RunMade s d g l x y → HostDelivered s d g l y
  host_delivered y m =
      let at = m.can_run.setup in
      let start = m.can_run.start in
      let words = m.words in
      let q = made_delivered y m in
      let done : completed_word y ≡ 1 → m.outcome.completed ≡ true = λ e. set_word m.outcome.completed (sym words.completed ∙ e) in
      let flips : NoLengthFlips s d g y → FlipsOutside m.config.channel g.forward_rolls (file_chunks m.config g) (events_at m.outcome y.lent) =
      λ f. flips_same (channel_is at) (ap (λ (n : ℕ). chunks_of n g.file) at.chunk) (ap (λ (n : ℕ). events_of n y.lent.events) words.events) f in
      record {
        exact = λ e full. rw words.fill_mark (q.same_length (done e) (sym words.fill_mark ∙ full));
        nothing_else = rw words.fill_mark q.prefixes.nothing_else;
        mark = rw words.fill_mark q.fill;
        room = start.output_room;
        said = λ all. words.completed ∙ ap (λ (b : Bool). cond b 1 0) (q.said (rw (at.chunk, words.receiver_base) at all));
        whole = λ f e. rw words.fill_mark (q.whole (flips f) (done e));
        first = λ f. rw (words.fill_mark, words.receiver_base, at.chunk) (q.first (flips f)).first_written;
        not_negative = λ f. rw (words.sender_base, words.receiver_base) (q.first (flips f)).not_negative;
        in_window = λ f. near words.sender_base words.receiver_base (window_is m.config.protocol at.protocol at.window) (q.first (flips f)).in_window;
      }

  pub run_exact : RunExact s d g l x (run s d g l x)
  run_exact =
      record {
        done = λ e. host_delivered (run s d g l x) (run_made s d g l x e);
        else_refused = run_else_refused s d g l x;
        unchanged = run_refused g l x s d;
      }
