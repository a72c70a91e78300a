-- A sender in words does what the protocol's own does: the words hold it after every call.
use Rattle.std.specs.Prelude.{Err, None, Ok, Option, Result, Some}
use Prim.Native.Nat.{ℕ, ◌≤◌, min}
use mathlib.Core.Path.{◌≡◌, refl, sym, ap, ◌∙◌, subst}
use mathlib.Core.List.{List, [], ◌∷◌}
use mathlib.Core.Bool.{Bool, true, false, cond, not}
use native.Mathlib.Omega.{arith}
use borrow.Author.Tests.{ltb-true}
use lib.ListN.{length, get_or}
use lib.Dec.{ltb}
use Rattle.protocol.specs.declared.ProtocolType.{ProtocolType}
use Rattle.protocol.specs.declared.ProtocolType.TheVariants.{StopAndWait, GoBackN, SelectiveRepeat}
use Rattle.refusal.specs.declared.Refusal.TheVariants.{State, Counts, Full}
use Rattle.refusal.specs.Order.{check, verdict}
use Rattle.refusal.proofs.Laws.{either_answer}
use Rattle.window.specs.declared.SendWindow.{SendWindow}
use Rattle.window.specs.State.{outstanding, state_broken, counts_broken}
use Rattle.window.specs.Slots as slots
use Rattle.window.specs.Sending as window
use Rattle.window.specs.Resending.{TimeoutExit, timeout_exit, sent_again, resend, resend_outstanding}
use Rattle.window.proofs.Laws.{sound}
use Rattle.stop_and_wait.specs.Sender as stop_and_wait
use Rattle.stop_and_wait.specs.declared.StopAndWaitSender.{StopAndWaitSender}
use Rattle.refinement.proofs.Laws.{after_ack}
use Rattle.delivery.specs.Calls.{Done}
use Rattle.delivery.specs.AnyBytes as any
use Rattle.delivery.specs.AnyBytes.{SenderSound}
use Rattle.delivery.specs.Ends.{ends, by_sending, by_resending, is_handled, by_acknowledging}
use Rattle.delivery.proofs.Laws.{sender_step_sound}
use Rattle.session.specs.declared.Timeout.{Timeout}
use Rattle.session.specs.Sending.{SenderEnd, sender_end, send_chunk, handle_ack, handle_timeout}
use Rattle.session.specs.Ends.{sender_of, timeout_of, done_as}
use Rattle.session.proofs.Laws.{send_chunk_is, handle_ack_is, handle_timeout_is, sender_base_is}
use Rattle.host_words.specs.Words.{state_words, sender_word, held_sender}
use Rattle.host_words.proofs.Words.{sender_window, sender_length}
use Rattle.host_words.proofs.HeldBack.{protocol_of, SenderFits, sender_kind, sender_held}
use Rattle.host_ends.specs.Answers.{CallExit}
use Rattle.host_ends.specs.Sender as host
use Rattle.host_ends.specs.Sender.{words_after, sent, send_held, number_of, acknowledged, acknowledge_held, timed_out, timeout_held}
use Rattle.host_ends.proofs.Fits.{send_fits, timeout_fits}
use Rattle.host_delivery.specs.Host.{HostSender, host_ends, by_sender, by_ack}
use Rattle.host_delivery.proofs.Simulation.{Does}
use Rattle.host_delivery.proofs.Answers.{sent_done, sent_refused, sent_bytes_lem, resent_done, resent_refused, resent_bytes, ack_refused, twice_not}
use Rattle.refusal.specs.declared.Refusal.{Refusal}
use Rattle.session.specs.declared.Sender.{Sender}

-- retries of 32 bits: Stop-and-Wait counts no further than its limit
abbrev pub RetriesFit : (p : ProtocolType) → (ends p).Sender → Type 0
RetriesFit StopAndWait v = (v.sender.max_retries ≤ 4294967295) × (v.sender.current_retries ≤ v.sender.max_retries)
RetriesFit GoBackN v = Unit {0}
RetriesFit SelectiveRepeat v = Unit {0}

-- words of p's sender hold s, with its store; s is good
pub record HoldsSender (p : ProtocolType) (h : HostSender) (s : (ends p).Sender) : Type 0 where
  pub long : state_words ≤ length h.words
  pub word : get_or h.words 0 0 ≡ sender_word p
  pub held : held_sender h.words ≡ Some (sender_of p s).sender
  pub store : (sender_of p s).store ≡ h.store
  pub good : SenderSound p s
  pub retries : RetriesFit p s

-- such a sender fits in words
pub fits : (p : ProtocolType) (s : (ends p).Sender) → SenderSound p s → RetriesFit p s → SenderFits (sender_of p s).sender.state
fits StopAndWait s g r =
    let k = sound false (stop_and_wait.window_of s.sender) s.store g in
    let ordered = k.ordered in
    let low = k.low in
    let most = r.0 in
    let count = r.1 in
    (omega (arith, ordered, low), most, omega (arith, most, count))
fits GoBackN s g r =
    let k = sound false s.window s.store g in
    let ordered = k.ordered in
    let low = k.low in
    (omega (arith, ordered, low), omega (arith, low))
fits SelectiveRepeat s g r =
    let k = sound true s.window s.store g in
    let ordered = k.ordered in
    let low = k.low in
    (omega (arith, ordered, low), omega (arith, low))

pub protocol_of_lem : (p : ProtocolType) (s : (ends p).Sender) → protocol_of (sender_of p s).sender.state ≡ p
protocol_of_lem StopAndWait s = refl
protocol_of_lem GoBackN s = refl
protocol_of_lem SelectiveRepeat s = refl

-- the words and the store after a call that left y
abbrev pub put_back : List ℕ → SenderEnd → HostSender
put_back words y = record { words = words_after words y; store = y.store }

-- a good sender put into words of its kind is what they hold
pub put_holds : (p : ProtocolType) (words : List ℕ) (s : (ends p).Sender) → state_words ≤ length words → get_or words 0 0 ≡ sender_word p → SenderSound p s → RetriesFit p s
    → HoldsSender p (put_back words (sender_of p s)) s
put_holds p words s enough word good retries =
    let x = (sender_of p s).sender.state in
    let size = sender_length words x in
    record {
      long = omega (arith, size, enough);
      word = sender_kind words x ∙ word;
      held = sender_held words x enough (word ∙ ap sender_word (sym (protocol_of_lem p s))) (fits p s good retries);
      store = refl;
      good = good;
      retries = retries;
    }

module _ (p : ProtocolType) (h : HostSender) (s : (ends p).Sender) (before : HoldsSender p h s) where
  -- a call whose session's exit is d, and what a host reads of it is g
  call_does : (d : Done SenderEnd) (e : Done (ends p).Sender) (g : Done HostSender) → d ≡ done_as (sender_of p) e → SenderSound p e.after → RetriesFit p e.after
      → g.after ≡ put_back h.words d.after → g.written ≡ d.written → g.is_done ≡ d.is_done → g.is_refused ≡ d.is_refused → Does (HoldsSender p) g e
  call_does d e g same good retries after written is_done is-refused =
      record {
        after = subst (λ (y : HostSender). HoldsSender p y e.after) (sym (after ∙ ap (λ (c : Done SenderEnd). put_back h.words c.after) same)) (put_holds p h.words e.after before.long before.word good retries);
        written = written ∙ ap (λ (c : Done SenderEnd). c.written) same;
        same_done = is_done ∙ ap (λ (c : Done SenderEnd). c.is_done) same;
        same_refused = is-refused ∙ ap (λ (c : Done SenderEnd). c.is_refused) same;
      }

  -- what each export does with words that hold s
  send_is : (payload out : List ℕ) → host.send h.words h.store payload out ≡ sent h.words (send_chunk (sender_of p s) payload out)
  unfolding send_held
  send_is payload out =
      ap (λ (x : Option Sender). send_held x h.words h.store payload out) before.held
      ∙ sym (ap (λ (store : List ℕ). sent h.words (send_chunk (sender_end (sender_of p s).sender store) payload out)) before.store)

  timeout_is : (t : Timeout) (out : List ℕ) → host.timeout h.words h.store t out ≡ timed_out h.words (handle_timeout (sender_of p s) t out)
  unfolding timeout_held
  timeout_is t out =
      ap (λ (x : Option Sender). timeout_held x h.words h.store t out) before.held
      ∙ sym (ap (λ (store : List ℕ). timed_out h.words (handle_timeout (sender_end (sender_of p s).sender store) t out)) before.store)

  acknowledge_is : (raw : List ℕ) → host.acknowledge h.words h.store raw ≡ acknowledged (number_of raw) h.words (handle_ack (sender_of p s) raw)
  unfolding acknowledge_held
  acknowledge_is raw =
      ap (λ (x : Option Sender). acknowledge_held x h.words h.store raw) before.held
      ∙ sym (ap (λ (store : List ℕ). acknowledged (number_of raw) h.words (handle_ack (sender_end (sender_of p s).sender store) raw)) before.store)

-- ---- retries
by_send_retries : (s : StopAndWaitSender) (a : Result (Option ℕ) Refusal) (w : SendWindow) → s.current_retries ≤ s.max_retries → (stop_and_wait.by_send s a w).current_retries ≤ (stop_and_wait.by_send s a w).max_retries
by_send_retries s (Ok (Some n)) w h = omega arith
by_send_retries s (Ok None) w h = h
by_send_retries s (Err r) w h = h

by_send_limit : (s : StopAndWaitSender) (a : Result (Option ℕ) Refusal) (w : SendWindow) → (stop_and_wait.by_send s a w).max_retries ≡ s.max_retries
by_send_limit s (Ok (Some n)) w = refl
by_send_limit s (Ok None) w = refl
by_send_limit s (Err r) w = refl

send_retries : (p : ProtocolType) (s : (ends p).Sender) (payload out : List ℕ) → RetriesFit p s → RetriesFit p ((ends p).send_chunk s payload out).after
send_retries StopAndWait s payload out r =
    let x = window.send_chunk false (stop_and_wait.window_end s) payload out in
    let e = by_send_limit s.sender x.answer x.after.window in
    let most = r.0 in
    (omega (arith, e, most), by_send_retries s.sender x.answer x.after.window r.1)
send_retries GoBackN s payload out r = tt
send_retries SelectiveRepeat s payload out r = tt

ack_retries : (p : ProtocolType) (s : (ends p).Sender) (raw : List ℕ) → RetriesFit p s → RetriesFit p ((ends p).handle_ack s raw).after
ack_retries StopAndWait s raw r =
    after_ack (RetriesFit StopAndWait) (stop_and_wait.decide_ack s raw) s (stop_and_wait.acknowledged s) r (λ n. (r.0, omega arith))
ack_retries GoBackN s raw r = tt
ack_retries SelectiveRepeat s raw r = tt

-- nothing is sent again where no retry is left
abbrev NotResent : Result (Option ℕ) Refusal → Type 0
NotResent (Ok (Some n)) = ⊥
NotResent (Ok None) = Unit {0}
NotResent (Err r) = Unit {0}

none_left : (broken counts : Bool) (v : slots.Sender) (n : ℕ) (out : List ℕ) → NotResent (resend broken counts v n 0 out).answer
unfolding resend
none_left broken counts v n out =
    either_answer (λ (x : TimeoutExit slots.Sender). NotResent x.answer)
    (verdict (check broken State ∷ check counts Counts ∷ check (ltb (length out) (length (sent_again v n 0))) Full ∷ [])) (λ r. timeout_exit (Err r) v out) (timeout_exit (Ok None) v out) (λ r. tt) (λ e. tt)

by_timeout_retries : (s : StopAndWaitSender) (a : Result (Option ℕ) Refusal) (w : SendWindow) (left : Bool) → ltb s.current_retries s.max_retries ≡ left → (left ≡ false → NotResent a)
    → s.current_retries ≤ s.max_retries → (stop_and_wait.by_timeout s a w).current_retries ≤ (stop_and_wait.by_timeout s a w).max_retries
by_timeout_retries s (Ok (Some n)) w true e k h = let below = ltb-true s.current_retries s.max_retries e in omega (arith, below)
by_timeout_retries s (Ok (Some n)) w false e k h = absurd (k refl)
by_timeout_retries s (Ok None) w left e k h = h
by_timeout_retries s (Err r) w left e k h = h

by_timeout_limit : (s : StopAndWaitSender) (a : Result (Option ℕ) Refusal) (w : SendWindow) → (stop_and_wait.by_timeout s a w).max_retries ≡ s.max_retries
by_timeout_limit s (Ok (Some n)) w = refl
by_timeout_limit s (Ok None) w = refl
by_timeout_limit s (Err r) w = refl

spent : (s : StopAndWaitSender) (v : slots.Sender) (out : List ℕ) → ltb s.current_retries s.max_retries ≡ false → NotResent (resend_outstanding v (stop_and_wait.retries_left s) out).answer
spent s v out e =
    let zero : stop_and_wait.retries_left s ≡ 0 = ap (λ (b : Bool). cond b 1 0) e in
    let none : min (stop_and_wait.retries_left s) (outstanding v.window) ≡ 0 = omega (arith, zero) in
    let broken = state_broken false v.window v.store in
    let counts = counts_broken v.window in
    subst (λ (k : ℕ). NotResent (resend broken counts v v.window.send_base k out).answer) (sym none) (none_left broken counts v v.window.send_base out)

timeout_retries : (p : ProtocolType) (s : (ends p).Sender) (t : (ends p).Timeout) (out : List ℕ) → RetriesFit p s → RetriesFit p ((ends p).handle_timeout s t out).after
timeout_retries StopAndWait s t out r =
    let v = stop_and_wait.window_end s in
    let x = resend_outstanding v (stop_and_wait.retries_left s.sender) out in
    let e = by_timeout_limit s.sender x.answer x.after.window in
    let most = r.0 in
    let left = ltb s.sender.current_retries s.sender.max_retries in
    (omega (arith, e, most), by_timeout_retries s.sender x.answer x.after.window left refl (λ z. spent s.sender v out z) r.1)
timeout_retries GoBackN s t out r = tt
timeout_retries SelectiveRepeat s t out r = tt

-- ---- the calls
pub host_sends : (p : ProtocolType) (h : HostSender) (s : (ends p).Sender) (payload out : List ℕ) → HoldsSender p h s → Does (HoldsSender p) (host_ends.send_chunk h payload out) ((ends p).send_chunk s payload out)
host_sends p h s payload out before =
    let x = send_chunk (sender_of p s) payload out in
    let e = send_is p h s before payload out in
    call_does p h s before (by_sending x) ((ends p).send_chunk s payload out) (by_sender (host.send h.words h.store payload out)) (send_chunk_is p s payload out)
    (sender_step_sound p s (any.send payload out) before.good) (send_retries p s payload out before.retries) (ap (λ (c : CallExit). (by_sender c).after) e)
    (ap (λ (c : CallExit). (by_sender c).written) e ∙ sent_bytes_lem x.answer x.out (send_fits (sender_of p s) payload out)) (ap (λ (c : CallExit). (by_sender c).is_done) e ∙ sent_done x.answer)
    (ap (λ (c : CallExit). (by_sender c).is_refused) e ∙ sent_refused x.answer)

pub host_times : (p : ProtocolType) (h : HostSender) (s : (ends p).Sender) (t : Timeout) (out : List ℕ) → HoldsSender p h s
    → Does (HoldsSender p) (host_ends.handle_timeout h t out) ((ends p).handle_timeout s (timeout_of p s t) out)
host_times p h s t out before =
    let x = handle_timeout (sender_of p s) t out in
    let e = timeout_is p h s before t out in
    call_does p h s before (by_resending x) ((ends p).handle_timeout s (timeout_of p s t) out) (by_sender (host.timeout h.words h.store t out)) (handle_timeout_is p s t out)
    (sender_step_sound p s (any.timeout (timeout_of p s t) out) before.good) (timeout_retries p s (timeout_of p s t) out before.retries) (ap (λ (c : CallExit). (by_sender c).after) e)
    (ap (λ (c : CallExit). (by_sender c).written) e ∙ resent_bytes x.answer x.out (timeout_fits (sender_of p s) t out)) (ap (λ (c : CallExit). (by_sender c).is_done) e ∙ resent_done x.answer)
    (ap (λ (c : CallExit). (by_sender c).is_refused) e ∙ resent_refused x.answer)

pub host_acks : (p : ProtocolType) (h : HostSender) (s : (ends p).Sender) (raw : List ℕ) → HoldsSender p h s → Does (HoldsSender p) (host_ends.handle_ack h raw) ((ends p).handle_ack s raw)
host_acks p h s raw before =
    let x = handle_ack (sender_of p s) raw in
    let e = acknowledge_is p h s before raw in
    call_does p h s before (by_acknowledging x) ((ends p).handle_ack s raw) (by_ack (host.acknowledge h.words h.store raw)) (handle_ack_is p s raw)
    (sender_step_sound p s (any.ack raw) before.good) (ack_retries p s raw before.retries) (ap (λ (c : CallExit). (by_ack c).after) e) refl
    (ap (λ (c : CallExit). (by_ack c).is_done) e ∙ ap not (ack_refused (number_of raw) x.answer) ∙ twice_not (is_handled x.answer))
    (ap (λ (c : CallExit). (by_ack c).is_refused) e ∙ ack_refused (number_of raw) x.answer)

pub host_base : (p : ProtocolType) (h : HostSender) (s : (ends p).Sender) → HoldsSender p h s → host_ends.sender_base h ≡ (ends p).sender_base s
host_base p h s before = sym (sender_base_is p s ∙ ap (λ (w : SendWindow). w.send_base) (sender_window h.words before.held))
