-- A receiver alone, over numbers and chunks. If each packet handed to it has P of its number and payload, so has each part that it holds or delivers.
use Rattle.std.specs.Prelude.{Option, None, Some}
use mathlib.Core.Path.{◌≡◌, refl, sym, ap, subst, ◌∙◌}
use mathlib.Core.Bool.{Bool, true, false, cond}
use mathlib.Core.List.{List, [], ◌∷◌, ◌++◌}
use Prim.Native.Nat.{ℕ, zero, suc, ◌+◌, ◌-◌, ◌≤◌, ◌<◌}
use native.Mathlib.Omega.{arith}
use native.Mathlib.Decide.{ℕ_discrete, dec_lt}
use lib.ListN.{length, get_or, drop, set, replicate, get_or-append}
use lib.Seq.{get_or-drop, get_or-set_same, get_or-set_other, get_or-append-add}
use lib.Dec.{ltb, leb, eqb}
use borrow.Author.Tests.{leb-true, eqb-true}
use Rattle.protocol.specs.Machine.{Chunk, Segment, ReceiverState, Received, received, held_run, hold, deliver_run, hold_at, late_acks, receive_in_order, receive_selective, receive}
use Rattle.protocol.specs.declared.ProtocolType.{ProtocolType}
use Rattle.protocol.specs.declared.ProtocolType.TheVariants.{StopAndWait, GoBackN, SelectiveRepeat}

no_some : {X : Type 0} (c : Chunk) → ◌≡◌ {A = Option Chunk} None (Some c) → X
no_some c e = let z : ◌≡◌ {A = ℕ} 0 1 = cc in absurd (omega arith)

some_same : (c d : Chunk) → ◌≡◌ {A = Option Chunk} (Some c) (Some d) → c ≡ d
some_same c d e = cc

-- what is in the run is held at its place
run_at : (held : List (Option Chunk)) (i : ℕ) → i < length (held_run held) → get_or held i None ≡ Some (get_or (held_run held) i [])
run_at [] i h = absurd (omega arith)
run_at (None ∷ held) i h = absurd (omega arith)
run_at (Some c ∷ held) zero h = refl
run_at (Some c ∷ held) (suc i) h = run_at held i (omega arith)

module _ (P : ℕ → Chunk → Type 0) where
  pub record HeldOk (base : ℕ) (held : List (Option Chunk)) : Type 0 where
    pub at : (i : ℕ) (c : Chunk) → get_or held i None ≡ Some c → P (base + i) c

  pub record ReceivedOk (r : ReceiverState) (a : Received) : Type 0 where
    pub held : HeldOk a.after.base a.after.held
    pub delivered : (i : ℕ) → i < length a.delivered → P (r.base + i) (get_or a.delivered i [])
    pub base : a.after.base ≡ r.base + length a.delivered

  nothing : (r : ReceiverState) (acks : List ℕ) → HeldOk r.base r.held → ReceivedOk r (received r [] acks)
  nothing r acks h = record { held = h; delivered = λ i l. absurd (omega arith); base = omega arith }

  -- one held more
  held_more : (base j : ℕ) (held : List (Option Chunk)) (c : Chunk) → HeldOk base held → P (base + j) c → HeldOk base (set held j (hold (get_or held j None) c))
  held_more base j held c h k = record { at = λ i d e. go i d (ℕ_discrete i j) e }
    where
      kept : (x : Option Chunk) (d : Chunk) → x ≡ get_or held j None → hold x c ≡ Some d → P (base + j) d
      kept None d e f = subst (P (base + j)) (some_same c d f) k
      kept (Some y) d e f = h.at j d (sym e ∙ f)

      short : (i : ℕ) (d : Chunk) → i ≡ j → Dec (j < length held) → get_or (set held j (hold (get_or held j None) c)) i None ≡ Some d → P (base + i) d
      short i d e (yes l) f = rw e (kept (get_or held j None) d refl (sym (get_or-set_same held j (hold (get_or held j None) c) None l) ∙ sym (ap (λ (n : ℕ). get_or (set held j (hold (get_or held j None) c)) n None) e) ∙ f))
      short i d e (no l) f = h.at i d (unset held j i (hold (get_or held j None) c) e (λ x. l x) ∙ f)
        where
          unset : (xs : List (Option Chunk)) (j i : ℕ) (x : Option Chunk) → i ≡ j → (j < length xs → ⊥) → get_or xs i None ≡ get_or (set xs j x) i None
          unset [] j i x e l = refl
          unset (y ∷ xs) zero i x e l = absurd (l (omega arith))
          unset (y ∷ xs) (suc j) zero x e l = refl
          unset (y ∷ xs) (suc j) (suc i) x e l = unset xs j i x (omega arith) (λ k. l (omega arith))

      go : (i : ℕ) (d : Chunk) → Dec (i ≡ j) → get_or (set held j (hold (get_or held j None) c)) i None ≡ Some d → P (base + i) d
      go i d (yes e) f = short i d e (dec_lt j (length held)) f
      go i d (no n) f = h.at i d (sym (get_or-set_other held j i (hold (get_or held j None) c) None n) ∙ f)

  -- the run delivered, the places after it moved down
  moved : (base k : ℕ) (held : List (Option Chunk)) → HeldOk base held → HeldOk (base + k) (drop k held ++ replicate k None)
  moved base k held h = record { at = λ i c e. go i c (dec_lt i (length (drop k held))) e }
    where
      go : (i : ℕ) (c : Chunk) → Dec (i < length (drop k held)) → get_or (drop k held ++ replicate k None) i None ≡ Some c → P (base + k + i) c
      go i c (yes l) e =
          let z : base + (k + i) ≡ base + k + i = omega arith in
          subst (λ (n : ℕ). P n c) z (h.at (k + i) c (sym (get_or-drop k held i None) ∙ sym (get_or-append (drop k held) (replicate k None) None i l) ∙ e))
      go i c (no l) e =
          let z : length (drop k held) + (i - length (drop k held)) ≡ i = omega (arith, at_least) in
          no_some c (sym (vacant k (i - length (drop k held))) ∙ sym (get_or-append-add (drop k held) (replicate k None) (i - length (drop k held)) None) ∙ ap (λ (n : ℕ). get_or (drop k held ++ replicate k None) n None) z ∙ e)
        where
          at_least : length (drop k held) ≤ i
          at_least = below_not i (length (drop k held)) l
            where
              below_not : (a b : ℕ) → (a < b → ⊥) → b ≤ a
              below_not a b h = omega arith

          vacant : (k n : ℕ) → get_or (replicate {A = Option Chunk} k None) n None ≡ None
          vacant zero n = refl
          vacant (suc k) zero = refl
          vacant (suc k) (suc n) = vacant k n

  delivered_run : (r : ReceiverState) (n : ℕ) → HeldOk r.base r.held → ReceivedOk r (deliver_run r n)
  delivered_run r n h = record {
    held = moved r.base (length (held_run r.held)) r.held h;
    delivered = λ i l. h.at i (get_or (held_run r.held) i []) (run_at r.held i l);
    base = refl;
  }

  in_order_lem : (p : ProtocolType) (r : ReceiverState) (q : Segment) → ((x : ℕ) (i : ℕ) (c : Chunk) → get_or r.held i None ≡ Some c → P (x + i) c) → P q.number q.payload → ReceivedOk r (receive_in_order p r q)
  in_order_lem p r q h k = go (eqb q.number r.base) refl
    where
      first : (e : q.number ≡ r.base) (i : ℕ) → i < 1 → P (r.base + i) (get_or (q.payload ∷ []) i [])
      first e zero l = let z : q.number ≡ r.base + 0 = omega arith in subst (λ (n : ℕ). P n q.payload) z k
      first e (suc i) l = absurd (omega arith)

      go : (b : Bool) → eqb q.number r.base ≡ b
          → ReceivedOk r (cond b (received (record { base = r.base + 1; held = r.held }) (q.payload ∷ []) (q.number ∷ [])) (received r [] (late_acks p r.base q.number)))
      go true e = record { held = record { at = λ i c f. h (r.base + 1) i c f }; delivered = first (eqb-true q.number r.base e); base = refl }
      go false e = nothing r _ (record { at = λ i c f. h r.base i c f })

  selective : (w : ℕ) (r : ReceiverState) (q : Segment) → HeldOk r.base r.held → P q.number q.payload → ReceivedOk r (receive_selective w r q)
  selective w r q h k = go (leb r.base q.number) (ltb q.number (r.base + w)) (leb r.base (q.number + w)) refl
    where
      go : (a b c : Bool) → leb r.base q.number ≡ a
          → ReceivedOk r (cond a (cond b (deliver_run (hold_at r q) q.number) (received r [] [])) (cond c (received r [] (q.number ∷ [])) (received r [] [])))
      go true true c e =
          let l = leb-true r.base q.number e in
          let z : q.number ≡ r.base + (q.number - r.base) = omega arith in
          let d = delivered_run (hold_at r q) q.number (held_more r.base (q.number - r.base) r.held q.payload h (subst (λ (n : ℕ). P n q.payload) z k)) in
          record { held = d.held; delivered = d.delivered; base = d.base }
      go true false c e = nothing r [] h
      go false b true e = nothing r _ h
      go false b false e = nothing r [] h

  -- the receivers that take numbers in order hold nothing
  abbrev pub Holds : ProtocolType → ReceiverState → Type 0
  Holds StopAndWait r = r.held ≡ []
  Holds GoBackN r = r.held ≡ []
  Holds SelectiveRepeat r = HeldOk r.base r.held

  none_held : (r : ReceiverState) → r.held ≡ [] → (x : ℕ) (i : ℕ) (c : Chunk) → get_or r.held i None ≡ Some c → P (x + i) c
  none_held r e x i c f = no_some c (sym (ap (λ (l : List (Option Chunk)). get_or l i None) e) ∙ f)

  pub record HonestStep (p : ProtocolType) (r : ReceiverState) (a : Received) : Type 0 where
    pub holds : Holds p a.after
    pub delivered : (i : ℕ) → i < length a.delivered → P (r.base + i) (get_or a.delivered i [])
    pub base : a.after.base ≡ r.base + length a.delivered

  same_held : (p : ProtocolType) (r : ReceiverState) (q : Segment) → (receive_in_order p r q).after.held ≡ r.held
  same_held p r q = go (eqb q.number r.base)
    where
      go : (b : Bool) → (cond b (received (record { base = r.base + 1; held = r.held }) (q.payload ∷ []) (q.number ∷ [])) (received r [] (late_acks p r.base q.number))).after.held ≡ r.held
      go true = refl
      go false = refl

  pub honest : (p : ProtocolType) (w : ℕ) (r : ReceiverState) (q : Segment) → Holds p r → P q.number q.payload → HonestStep p r (receive p w r q)
  unfolding receive
  honest StopAndWait w r q h k = let x = in_order_lem StopAndWait r q (none_held r h) k in record { holds = same_held StopAndWait r q ∙ h; delivered = x.delivered; base = x.base }
  honest GoBackN w r q h k = let x = in_order_lem GoBackN r q (none_held r h) k in record { holds = same_held GoBackN r q ∙ h; delivered = x.delivered; base = x.base }
  honest SelectiveRepeat w r q h k = let x = selective w r q h k in record { holds = x.held; delivered = x.delivered; base = x.base }
