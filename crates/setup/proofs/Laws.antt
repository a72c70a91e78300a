-- What crates above may cite of a run's start: what holds where it isn't refused, and which of 9, 11, 4 and 5 is answered.
use Rattle.std.specs.Prelude.{Err, Result}
use mathlib.Core.Path.{◌≡◌, refl, sym, ap}
use mathlib.Core.Bool.{Bool, true, false, not, ◌||◌, and-eq-true_iff}
use mathlib.Core.List.{List, [], ◌∷◌}
use Prim.Native.Nat.{ℕ, ◌*◌, ◌≤◌, ◌<◌}
use native.Mathlib.Omega.{arith}
use lib.Dec.{ltb, eqb}
use lib.ListN.{length}
use borrow.Author.Tests.{ltb-false, le-ltb, lt-ltb, eqb-true, eq-eqb, not-false}
use Rattle.bounds.specs.Bounds.{max_payload, max_chunks, max_duration, max_window, slot_size}
use Rattle.refusal.proofs.Laws.{or_false, none_of, any_of_none, has, refused_one_of}
use Rattle.refusal.specs.Refusal.{entry_of}
use Rattle.refusal.specs.declared.Refusal.{Refusal}
use Rattle.refusal.specs.Order.{verdict}
use Rattle.refusal.specs.declared.Refusal.TheVariants.{Setup, Full, State, Roll}
use Rattle.protocol.specs.declared.ProtocolType.{ProtocolType}
use Rattle.protocol.specs.declared.ProtocolType.TheVariants.{StopAndWait, GoBackN, SelectiveRepeat}
use Rattle.schedule.proofs.Laws.{or_both}
use Rattle.window.specs.State.{window_broken, store_short}
use Rattle.channel.specs.Bounds.{config_broken}
use Rattle.rto.specs.Rto.{config_in_bounds}
use Rattle.rto.specs.declared.RtoConfig.{RtoConfig}
use Rattle.path.specs.Rolls.{rolls_broken}
use Rattle.chunks.specs.Chunks.{chunks_of}
use Rattle.setup.specs.Setup.{Start, CanStart, start_state, start_rolls, start_setup, start_room, start_checks, sender_slots}
use Rattle.setup.specs.Setup.{stores_short, state_broken, chunks_broken, clock_broken, setup_broken, timers_short, room_missing, edition_times, edition_factors, is_edition}
use Rattle.setup.specs.declared.TransferConfig.{TransferConfig}
use Rattle.setup.specs.declared.ClockChoice.TheVariants.{Edition}
use Rattle.setup.proofs.Checks.{reasons_for, state_first, roll_next, setup_next, full_last, none_true}
use Rattle.refusal.specs.Order.{passed}
pub use Rattle.setup.proofs.Checks.{Reasons}

-- ---- the order: each number, both ways
module _ (s : Start) where
  pub start_reasons : (v : Result Unit Refusal) → verdict (start_checks s) ≡ v → Reasons (start_state s) (start_rolls s) (start_setup s) (start_room s) v
  start_reasons v h = reasons_for (start_state s) (start_rolls s) (start_setup s) (start_room s) v h

  pub refused_state : verdict (start_checks s) ≡ Err State → start_state s ≡ true
  refused_state h = start_reasons (Err State) h

  pub refuses_state : start_state s ≡ true → verdict (start_checks s) ≡ Err State
  refuses_state p = sym (state_first (start_state s) (start_rolls s) (start_setup s) (start_room s) p)

  pub refused_roll : verdict (start_checks s) ≡ Err Roll → (start_state s ≡ false) × (start_rolls s ≡ true)
  refused_roll h = start_reasons (Err Roll) h

  pub refuses_roll : start_state s ≡ false → start_rolls s ≡ true → verdict (start_checks s) ≡ Err Roll
  refuses_roll p q = sym (roll_next (start_state s) (start_rolls s) (start_setup s) (start_room s) p q)

  pub refused_setup : verdict (start_checks s) ≡ Err Setup → (start_state s ≡ false) × (start_rolls s ≡ false) × (start_setup s ≡ true)
  refused_setup h = start_reasons (Err Setup) h

  pub refuses_setup : start_state s ≡ false → start_rolls s ≡ false → start_setup s ≡ true → verdict (start_checks s) ≡ Err Setup
  refuses_setup p q r = sym (setup_next (start_state s) (start_rolls s) (start_setup s) (start_room s) p q r)

  pub refused_full : verdict (start_checks s) ≡ Err Full → (start_state s ≡ false) × (start_rolls s ≡ false) × (start_setup s ≡ false) × (start_room s ≡ true)
  refused_full h = start_reasons (Err Full) h

  pub refuses_full : start_state s ≡ false → start_rolls s ≡ false → start_setup s ≡ false → start_room s ≡ true → verdict (start_checks s) ≡ Err Full
  refuses_full p q r t = sym (full_last (start_state s) (start_rolls s) (start_setup s) (start_room s) p q r t)

  -- no other number is
  pub refused_numbers : (r : Refusal) → verdict (start_checks s) ≡ Err r → has (entry_of r).number (9 ∷ 11 ∷ 4 ∷ 5 ∷ []) ≡ true
  refused_numbers r h = refused_one_of (λ (q : Refusal). has (entry_of q).number (9 ∷ 11 ∷ 4 ∷ 5 ∷ []) ≡ true) r (start_checks s) (refl, (refl, (refl, (refl, tt)))) h

-- ---- by protocol
module _ (w : ℕ) where
  stores_enough : (p : ProtocolType) (sender receiver : List ℕ) → stores_short p w sender receiver ≡ false → (sender_slots p w * slot_size ≤ length sender) × (p ≡ SelectiveRepeat → w * slot_size ≤ length receiver)
  unfolding store_short
  stores_enough StopAndWait sender receiver e = (ltb-false _ _ e, λ h. let z : ◌≡◌ {A = ℕ} 0 1 = cc in absurd (omega arith))
  stores_enough GoBackN sender receiver e = (ltb-false _ _ e, λ h. let z : ◌≡◌ {A = ℕ} 0 1 = cc in absurd (omega arith))
  stores_enough SelectiveRepeat sender receiver e = let f = or_false (ltb (length sender) (w * slot_size)) (ltb (length receiver) (w * slot_size)) e in (ltb-false _ _ f.0, λ h. ltb-false _ _ f.1)

  enough_stores : (p : ProtocolType) (sender receiver : List ℕ) → sender_slots p w * slot_size ≤ length sender → (p ≡ SelectiveRepeat → w * slot_size ≤ length receiver) → stores_short p w sender receiver ≡ false
  unfolding store_short
  enough_stores StopAndWait sender receiver h k = le-ltb _ _ h
  enough_stores GoBackN sender receiver h k = le-ltb _ _ h
  enough_stores SelectiveRepeat sender receiver h k = or_both (ltb (length sender) (w * slot_size)) (ltb (length receiver) (w * slot_size)) (le-ltb _ _ h) (le-ltb _ _ (k refl))

  timers_enough : (p : ProtocolType) (keys : List ℕ) → timers_short p w keys ≡ false → p ≡ SelectiveRepeat → w ≤ length keys
  timers_enough StopAndWait keys e h = let z : ◌≡◌ {A = ℕ} 0 1 = cc in absurd (omega arith)
  timers_enough GoBackN keys e h = let z : ◌≡◌ {A = ℕ} 0 1 = cc in absurd (omega arith)
  timers_enough SelectiveRepeat keys e h = ltb-false _ _ e

  enough_timers : (p : ProtocolType) (keys : List ℕ) → (p ≡ SelectiveRepeat → w ≤ length keys) → timers_short p w keys ≡ false
  enough_timers StopAndWait keys k = refl
  enough_timers GoBackN keys k = refl
  enough_timers SelectiveRepeat keys k = le-ltb _ _ (k refl)

  pub window_within : window_broken w ≡ false → (1 ≤ w) × (w ≤ max_window)
  unfolding window_broken
  window_within e = let f = none_of _ e in (ltb-false w 1 f.0, ltb-false max_window w f.1.0)

  pub within_window : 1 ≤ w → w ≤ max_window → window_broken w ≡ false
  unfolding window_broken
  within_window h k = any_of_none _ (le-ltb w 1 h, (le-ltb max_window w k, tt))

-- ---- the checks, one by one
module _ (s : Start) where
  record NotState : Type 0 where
    alike : length s.keys ≡ length s.deadlines
    stores : stores_short s.config.protocol s.config.window_size s.sender_store s.receiver_store ≡ false

  not_state : start_state s ≡ false → NotState
  unfolding state_broken
  not_state e =
      let f = or_false (not (eqb (length s.keys) (length s.deadlines))) (stores_short s.config.protocol s.config.window_size s.sender_store s.receiver_store) e in
      record { alike = eqb-true _ _ (not-false _ f.0); stores = f.1 }

  state_not : length s.keys ≡ length s.deadlines → stores_short s.config.protocol s.config.window_size s.sender_store s.receiver_store ≡ false → start_state s ≡ false
  unfolding state_broken
  state_not h k = or_both (not (eqb (length s.keys) (length s.deadlines))) _ (ap not (eq-eqb _ _ h)) k

  record NotSetup : Type 0 where
    window : window_broken s.config.window_size ≡ false
    chunks : chunks_broken s.config.chunk_size s.file ≡ false
    channel : config_broken s.config.channel ≡ false
    rto : config_in_bounds s.config.rto ≡ true
    time : s.config.max_virtual_time ≤ max_duration
    clock : clock_broken s.config.clock s.config.protocol s.config.rto ≡ false

  not_setup : start_setup s ≡ false → NotSetup
  unfolding setup_broken
  not_setup e =
      let f1 = or_false (window_broken s.config.window_size) _ e in
      let f2 = or_false (chunks_broken s.config.chunk_size s.file) _ f1.1 in
      let f3 = or_false (config_broken s.config.channel) _ f2.1 in
      let f4 = or_false (not (config_in_bounds s.config.rto)) _ f3.1 in
      let f5 = or_false (ltb max_duration s.config.max_virtual_time) _ f4.1 in
      record { window = f1.0; chunks = f2.0; channel = f3.0; rto = not-false (config_in_bounds s.config.rto) f4.0; time = ltb-false _ _ f5.0; clock = f5.1 }

  setup_not : NotSetup → start_setup s ≡ false
  unfolding setup_broken
  setup_not n = or_both _ _ n.window (or_both _ _ n.chunks (or_both _ _ n.channel (or_both _ _ (ap not n.rto) (or_both _ _ (le-ltb _ _ n.time) n.clock))))

  record NotRoom : Type 0 where
    output : length s.file ≤ length s.output
    notes : length (chunks_of s.config.chunk_size s.file) ≤ length s.notes
    timers : timers_short s.config.protocol s.config.window_size s.keys ≡ false

  not_room : start_room s ≡ false → NotRoom
  unfolding room_missing
  not_room e =
      let f1 = or_false (ltb (length s.output) (length s.file)) (ltb (length s.notes) (length (chunks_of s.config.chunk_size s.file)) || timers_short s.config.protocol s.config.window_size s.keys) e in
      let f2 = or_false (ltb (length s.notes) (length (chunks_of s.config.chunk_size s.file))) (timers_short s.config.protocol s.config.window_size s.keys) f1.1 in
      record { output = ltb-false _ _ f1.0; notes = ltb-false _ _ f2.0; timers = f2.1 }

  room_not : NotRoom → start_room s ≡ false
  unfolding room_missing
  room_not n = or_both _ _ (le-ltb _ _ n.output) (or_both _ _ (le-ltb _ _ n.notes) n.timers)

module _ (c : ℕ) (file : List ℕ) where
  chunks_within : chunks_broken c file ≡ false → (1 ≤ c) × (c ≤ max_payload) × (length (chunks_of c file) ≤ max_chunks)
  chunks_within e =
      let f = or_false (ltb c 1) (ltb max_payload c || ltb max_chunks (length (chunks_of c file))) e in
      let g = or_false (ltb max_payload c) (ltb max_chunks (length (chunks_of c file))) f.1 in
      (ltb-false c 1 f.0, ltb-false max_payload c g.0, ltb-false max_chunks _ g.1)

  within_chunks : 1 ≤ c → c ≤ max_payload → length (chunks_of c file) ≤ max_chunks → chunks_broken c file ≡ false
  within_chunks h k l = or_both (ltb c 1) _ (le-ltb c 1 h) (or_both (ltb max_payload c) _ (le-ltb max_payload c k) (le-ltb max_chunks _ l))

-- a file of too many chunks is a 4, whatever else is broken in its setup
or_left : (a b : Bool) → a ≡ true → (a || b) ≡ true
or_left a b h = rw h

or_right : (a b : Bool) → b ≡ true → (a || b) ≡ true
or_right true b h = refl
or_right false b h = h

pub many_chunks : (c : TransferConfig) (file : List ℕ) → max_chunks < length (chunks_of c.chunk_size file) → setup_broken c file ≡ true
unfolding setup_broken
many_chunks c file h = or_right (window_broken c.window_size) _ (or_left (chunks_broken c.chunk_size file) _ (or_right (ltb c.chunk_size 1) _ (or_right (ltb max_payload c.chunk_size) _ (lt-ltb _ _ h))))

-- ---- accepted exactly where all that is asked is met
module _ (s : Start) where
  pub start_accepted : verdict (start_checks s) ≡ passed → CanStart s
  start_accepted h =
      let f = start_reasons s passed h in
      let state = not_state s f.0 in
      let stores = stores_enough s.config.window_size s.config.protocol s.sender_store s.receiver_store state.stores in
      let rolls = or_false (rolls_broken s.forward_rolls) (rolls_broken s.reverse_rolls) f.1 in
      let setup = not_setup s f.2 in
      let window = window_within s.config.window_size setup.window in
      let chunks = chunks_within s.config.chunk_size s.file setup.chunks in
      let room = not_room s f.3 in
      record {
        timers_alike = state.alike;
        sender_room = stores.0;
        receiver_room = stores.1;
        forward_rolls = rolls.0;
        reverse_rolls = rolls.1;
        window_some = window.0;
        window_small = window.1;
        chunk_some = chunks.0;
        chunk_small = chunks.1;
        chunks_few = chunks.2;
        channel_fine = setup.channel;
        rto_fine = setup.rto;
        time_short = setup.time;
        clock_fine = setup.clock;
        output_room = room.output;
        notes_room = room.notes;
        timers_room = timers_enough s.config.window_size s.config.protocol s.keys room.timers;
      }

  module _ (h : CanStart s) where
    pub state_fine : start_state s ≡ false
    state_fine = state_not s h.timers_alike (enough_stores s.config.window_size s.config.protocol s.sender_store s.receiver_store h.sender_room h.receiver_room)

    pub rolls_fine : start_rolls s ≡ false
    rolls_fine = or_both (rolls_broken s.forward_rolls) (rolls_broken s.reverse_rolls) h.forward_rolls h.reverse_rolls

    pub window_fine : window_broken s.config.window_size ≡ false
    window_fine = within_window s.config.window_size h.window_some h.window_small

    pub setup_fine : start_setup s ≡ false
    setup_fine =
        setup_not s record {
          window = window_fine;
          chunks = within_chunks s.config.chunk_size s.file h.chunk_some h.chunk_small h.chunks_few;
          channel = h.channel_fine;
          rto = h.rto_fine;
          time = h.time_short;
          clock = h.clock_fine;
        }

    pub room_fine : start_room s ≡ false
    room_fine = room_not s record { output = h.output_room; notes = h.notes_room; timers = enough_timers s.config.window_size s.config.protocol s.keys h.timers_room }

    pub start_accepts : verdict (start_checks s) ≡ passed
    start_accepts = sym (none_true (start_state s) (start_rolls s) (start_setup s) (start_room s) state_fine rolls_fine setup_fine room_fine)

    -- in the words of the ends' makers
    pub sender_store_fine : store_short s.sender_store (sender_slots s.config.protocol s.config.window_size) ≡ false
    unfolding store_short
    sender_store_fine = le-ltb _ _ h.sender_room

    pub receiver_store_fine : s.config.protocol ≡ SelectiveRepeat → store_short s.receiver_store s.config.window_size ≡ false
    unfolding store_short
    receiver_store_fine p = le-ltb _ _ (h.receiver_room p)

    pub sender_window_fine : window_broken (sender_slots s.config.protocol s.config.window_size) ≡ false
    sender_window_fine = by_protocol s.config.protocol window_fine where
      by_protocol : (p : ProtocolType) → window_broken s.config.window_size ≡ false → window_broken (sender_slots p s.config.window_size) ≡ false
      by_protocol StopAndWait e = within_window 1 (omega arith) (omega arith)
      by_protocol GoBackN e = e
      by_protocol SelectiveRepeat e = e

-- ---- the edition clock that isn't refused
pub record EditionNumbers (c : RtoConfig) : Type 0 where
  pub initial : c.initial_rto ≡ 1000000000
  pub min : c.min_rto ≡ 1000000000
  pub max : c.max_rto ≡ 60000000000
  pub granularity : c.granularity ≡ 1000000
  pub factors : edition_factors c ≡ true

edition_numbers : (c : RtoConfig) → is_edition c ≡ true → EditionNumbers c
edition_numbers c e =
    let h = (and-eq-true_iff (edition_times c) (edition_factors c)).0 e in
    let t1 = (and-eq-true_iff (eqb c.initial_rto 1000000000) _).0 h.0 in
    let t2 = (and-eq-true_iff (eqb c.min_rto 1000000000) _).0 t1.1 in
    let t3 = (and-eq-true_iff (eqb c.max_rto 60000000000) (eqb c.granularity 1000000)).0 t2.1 in
    record { initial = eqb-true _ _ t1.0; min = eqb-true _ _ t2.0; max = eqb-true _ _ t3.0; granularity = eqb-true _ _ t3.1; factors = h.1 }

pub edition_clock : (p : ProtocolType) (c : RtoConfig) → clock_broken Edition p c ≡ false → (p ≡ SelectiveRepeat → ⊥) × EditionNumbers c
unfolding clock_broken
edition_clock StopAndWait c e = (λ h. let z : ◌≡◌ {A = ℕ} 0 1 = cc in omega arith, edition_numbers c (not-false _ e))
edition_clock GoBackN c e = (λ h. let z : ◌≡◌ {A = ℕ} 0 1 = cc in omega arith, edition_numbers c (not-false _ e))
edition_clock SelectiveRepeat c e = let z : ◌≡◌ {A = ℕ} 0 1 = cc in absurd (omega arith)
