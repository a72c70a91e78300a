-- Lists of calls, one after the other: what the worlds of a longer list keep of those of a shorter.
use Prim.Native.Nat.{ℕ, ◌+◌}
use mathlib.Core.Path.{◌≡◌, refl, sym, ap, ◌∙◌}
use mathlib.Core.List.{List, [], ◌∷◌, ◌++◌, append-nil, append_assoc}
use native.Mathlib.Omega.{arith}
use lib.ListN.{length-append, get_or-append}
use Rattle.protocol.specs.PlainMachine.{Fed}
use Rattle.octets.specs.Flip.{flip}
use Rattle.delivery.specs.Calls.{Copy, whole, flipped, copy_bytes, IsCopy, Call, send, timeout, to_receiver, to_sender, Ends, World, step, run, Allowed, Admissible, fed_by, fed_in}

pub run_append : (E : Ends) (v : World E) (cs ds : List (Call E.Timeout)) → run E v (cs ++ ds) ≡ run E (run E v cs) ds
unfolding run
run_append E v [] ds = refl
run_append E v (c ∷ cs) ds = run_append E (step E v c) cs ds

pub fed_append : (E : Ends) (v : World E) (cs ds : List (Call E.Timeout)) → fed_in E v (cs ++ ds) ≡ fed_in E v cs ++ fed_in E (run E v cs) ds
unfolding run fed_in
fed_append E v [] ds = refl
fed_append E v (c ∷ cs) ds = ap (λ (l : List Fed). fed_by E v c ∷ l) (fed_append E (step E v c) cs ds)

-- a list is admissible where its parts are, the second from where the first leads
pub admissible_append : (E : Ends) (v : World E) (cs ds : List (Call E.Timeout)) → Admissible E v cs → Admissible E (run E v cs) ds → Admissible E v (cs ++ ds)
unfolding run
admissible_append E v [] ds a b = b
admissible_append E v (c ∷ cs) ds a b = (a.0, admissible_append E (step E v c) cs ds a.1 b)

pub admissible_first : (E : Ends) (v : World E) (cs ds : List (Call E.Timeout)) → Admissible E v (cs ++ ds) → Admissible E v cs
admissible_first E v [] ds a = tt
admissible_first E v (c ∷ cs) ds a = (a.0, admissible_first E (step E v c) cs ds a.1)

pub admissible_rest : (E : Ends) (v : World E) (cs ds : List (Call E.Timeout)) → Admissible E v (cs ++ ds) → Admissible E (run E v cs) ds
unfolding run
admissible_rest E v [] ds a = a
admissible_rest E v (c ∷ cs) ds a = admissible_rest E (step E v c) cs ds a.1

-- what was made stays, and more is added behind it
pub record Grown (before after : List (List ℕ)) : Type 0 where
  pub more : List (List ℕ)
  pub is : after ≡ before ++ more

grown_none : (made : List (List ℕ)) → Grown made made
grown_none made = record { more = []; is = sym (append-nil made) }

grown_more : {a b c : List (List ℕ)} → Grown a b → Grown b c → Grown a c
grown_more {a} g h = record { more = g.more ++ h.more; is = h.is ∙ ap (λ (l : List (List ℕ)). l ++ h.more) g.is ∙ append_assoc a g.more h.more }

pub step_sent : (E : Ends) (v : World E) (c : Call E.Timeout) → Grown v.sent (step E v c).sent
unfolding step
step_sent E v (send payload buffer) = record { more = _; is = refl }
step_sent E v (timeout t buffer) = record { more = _; is = refl }
step_sent E v (to_receiver c buffer) = grown_none v.sent
step_sent E v (to_sender c) = record { more = _; is = refl }

pub step_replies : (E : Ends) (v : World E) (c : Call E.Timeout) → Grown v.replies (step E v c).replies
unfolding step
step_replies E v (send payload buffer) = grown_none v.replies
step_replies E v (timeout t buffer) = grown_none v.replies
step_replies E v (to_receiver c buffer) = record { more = _; is = refl }
step_replies E v (to_sender c) = grown_none v.replies

pub sent_grows : (E : Ends) (v : World E) (cs : List (Call E.Timeout)) → Grown v.sent (run E v cs).sent
unfolding run
sent_grows E v [] = grown_none v.sent
sent_grows E v (c ∷ cs) = grown_more (step_sent E v c) (sent_grows E (step E v c) cs)

pub replies_grow : (E : Ends) (v : World E) (cs : List (Call E.Timeout)) → Grown v.replies (run E v cs).replies
unfolding run
replies_grow E v [] = grown_none v.replies
replies_grow E v (c ∷ cs) = grown_more (step_replies E v c) (replies_grow E (step E v c) cs)

-- a copy stays a copy, and of the same bytes
pub copy_stays : (made more : List (List ℕ)) (c : Copy) → IsCopy made c → IsCopy (made ++ more) c
copy_stays made more (whole i) h = omega (arith, length-append made more)
copy_stays made more (flipped i j b) h =
    (omega (arith, length-append made more, h.0), rw (get_or-append made more [] i h.0) h.1, h.2, h.3, h.4)

pub copy_bytes_lem : (made more : List (List ℕ)) (c : Copy) → IsCopy made c → copy_bytes (made ++ more) c ≡ copy_bytes made c
copy_bytes_lem made more (whole i) h = get_or-append made more [] i h
copy_bytes_lem made more (flipped i j b) h = ap (λ (raw : List ℕ). flip raw j b) (get_or-append made more [] i h.0)

pub grown_copy : {made after : List (List ℕ)} → Grown made after → (c : Copy) → IsCopy made c → IsCopy after c
grown_copy {made} g c h = rw g.is (copy_stays made g.more c h)

pub grown_bytes : {made after : List (List ℕ)} → Grown made after → (c : Copy) → IsCopy made c → copy_bytes after c ≡ copy_bytes made c
grown_bytes {made} g c h = ap (λ (l : List (List ℕ)). copy_bytes l c) g.is ∙ copy_bytes_lem made g.more c h

-- a world to which an admissible list of calls leads
pub record Reached (E : Ends) (start now : World E) : Type 0 where
  pub calls : List (Call E.Timeout)
  pub admissible : Admissible E start calls
  pub leads : run E start calls ≡ now

pub at_start : (E : Ends) (v : World E) → Reached E v v
unfolding run
at_start E v = record { calls = []; admissible = tt; leads = refl }

pub many_more : {E : Ends} {start now : World E} → Reached E start now → (cs : List (Call E.Timeout)) → Admissible E now cs → Reached E start (run E now cs)
many_more {E} {start} {now} r cs a =
    record {
      calls = r.calls ++ cs;
      admissible = admissible_append E start r.calls cs r.admissible (rw r.leads a);
      leads = run_append E start r.calls cs ∙ ap (λ (v : World E). run E v cs) r.leads;
    }

pub one_more : {E : Ends} {start now : World E} → Reached E start now → (c : Call E.Timeout) → Allowed now c → Reached E start (step E now c)
unfolding run
one_more r c h = many_more r (c ∷ []) (h, tt)
