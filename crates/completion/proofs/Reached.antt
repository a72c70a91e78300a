-- Worlds to which a list of calls leads from fresh ends, and the chunks that it sent.
use Prim.Native.Nat.{ℕ, ◌<◌}
use mathlib.Core.Path.{◌≡◌, refl, ap, ◌∙◌, subst}
use mathlib.Core.List.{List, [], ◌∷◌, ◌++◌}
use lib.ListN.{length, get_or}
use Rattle.protocol.specs.declared.ProtocolType.{ProtocolType}
use Rattle.protocol.specs.declared.ProtocolType.TheVariants.{StopAndWait, GoBackN, SelectiveRepeat}
use Rattle.protocol.specs.PlainMachine.{PlainState, plain_start, plain_step, plain_run}
use Rattle.protocol.proofs.Laws.{plain_append, plain_sent, chunks_fed}
use Rattle.chunks.specs.Chunks.{chunks_of}
use Rattle.delivery.specs.Calls.{Call, World, step, run, Allowed, fed_by, fed_in}
use Rattle.delivery.specs.Ends.{ends, fresh_ends, Made}
use Rattle.delivery.specs.Demand3.{plain_after, Claim}
use Rattle.delivery.proofs.Laws.{fed_append, admissible_append, run_append, Reached, reached_claim, next_of, reached_next, OfChunk, reached_data}
use Rattle.session.specs.Sending.{window_of}
use Rattle.session.specs.Ends.{sender_of}

-- what a run is made of: the protocol, its window and limit, the lent stores and output, the file and the size of its chunks
pub record Start : Type 0 where
  pub protocol : ProtocolType
  pub window : ℕ
  pub limit : ℕ
  pub sending : List ℕ
  pub receiving : List ℕ
  pub output : List ℕ
  pub size : ℕ
  pub file : List ℕ

abbrev pub chunks_in : Start → List (List ℕ)
chunks_in s = chunks_of s.size s.file

abbrev pub RunWorld : Start → Type 0
RunWorld s = World (ends s.protocol)

abbrev pub start_world : (s : Start) → RunWorld s
start_world s = fresh_ends s.protocol s.window s.limit s.sending s.receiving s.output

abbrev pub RunCall : Start → Type 0
RunCall s = Call (ends s.protocol).Timeout

abbrev pub MadeAs : Start → Type 0
MadeAs s = Made s.protocol s.window s.sending s.receiving

abbrev pub plain_of : (s : Start) → List (RunCall s) → PlainState
plain_of s cs = plain_after s.protocol s.window (ends s.protocol) (start_world s) cs

-- an admissible list of calls leads to u and sent these chunks
pub record Led (s : Start) (u : RunWorld s) (sent : List (List ℕ)) : Type 0 where
  pub reached : Reached (ends s.protocol) (start_world s) u
  pub sent_is : (plain_of s reached.calls).sent ≡ sent

pub led_start : (s : Start) → Led s (start_world s) []
unfolding run fed_in plain_run plain_start
led_start s = record { reached = record { calls = []; admissible = tt; leads = refl }; sent_is = refl }

after_one : (s : Start) {u : RunWorld s} (r : Reached (ends s.protocol) (start_world s) u) (c : RunCall s) → plain_of s (r.calls ++ c ∷ []) ≡ plain_step s.protocol s.window (plain_of s r.calls) (fed_by (ends s.protocol) u c)
unfolding fed_in plain_run
after_one s r c =
    ap (plain_run s.protocol s.window plain_start) (fed_append (ends s.protocol) (start_world s) r.calls (c ∷ []))
    ∙ plain_append s.protocol s.window plain_start (fed_in (ends s.protocol) (start_world s) r.calls) _
    ∙ ap (λ (v : RunWorld s). plain_step s.protocol s.window (plain_of s r.calls) (fed_by (ends s.protocol) v c)) r.leads

-- one call more
pub led_more : {s : Start} {u : RunWorld s} {sent : List (List ℕ)} → Led s u sent → (c : RunCall s) → Allowed u c → Led s (step (ends s.protocol) u c) (sent ++ chunks_fed (fed_by (ends s.protocol) u c))
unfolding run
led_more {s} {u} {sent} l c h =
    record {
      reached = record {
        calls = l.reached.calls ++ c ∷ [];
        admissible = admissible_append (ends s.protocol) (start_world s) l.reached.calls (c ∷ []) l.reached.admissible (rw l.reached.leads (h, tt));
        leads = run_append (ends s.protocol) (start_world s) l.reached.calls (c ∷ []) ∙ ap (λ (v : RunWorld s). step (ends s.protocol) v c) l.reached.leads;
      };
      sent_is =
          ap (λ (x : PlainState). x.sent) (after_one s l.reached c)
          ∙ plain_sent s.protocol s.window (plain_of s l.reached.calls) (fed_by (ends s.protocol) u c)
          ∙ ap (λ (x : List (List ℕ)). x ++ chunks_fed (fed_by (ends s.protocol) u c)) l.sent_is;
    }

pub led_claim : {s : Start} {u : RunWorld s} {sent : List (List ℕ)} → MadeAs s → (l : Led s u sent) → Claim (ends s.protocol) s.window (start_world s) u (plain_of s l.reached.calls)
led_claim {s} m l = reached_claim s.protocol s.window s.limit s.sending s.receiving s.output m l.reached

next_is : (p : ProtocolType) (v : (ends p).Sender) → (window_of (sender_of p v).sender).next_seq_num ≡ next_of p v
next_is StopAndWait v = refl
next_is GoBackN v = refl
next_is SelectiveRepeat v = refl

-- the next number is how many were sent
pub led_next : {s : Start} {u : RunWorld s} {sent : List (List ℕ)} → MadeAs s → Led s u sent → (window_of (sender_of s.protocol u.sender).sender).next_seq_num ≡ length sent
led_next {s} {u} m l = next_is s.protocol u.sender ∙ reached_next s.protocol s.window s.limit s.sending s.receiving s.output m l.reached ∙ ap length l.sent_is

-- every datagram that the sender made is Data of the chunk of its number
pub led_data : {s : Start} {u : RunWorld s} {sent : List (List ℕ)} → MadeAs s → Led s u sent → (i : ℕ) → i < length u.sent → OfChunk sent (get_or u.sent i [])
led_data {s} {u} m l i h =
    subst (λ (t : List (List ℕ)). OfChunk t (get_or u.sent i [])) l.sent_is (reached_data s.protocol s.window s.limit s.sending s.receiving s.output m l.reached i h)
