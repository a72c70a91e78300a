-- The events of a run and the rolls: each event took the next eight, and what is asked of all events is asked of those before.
use Rattle.std.specs.Prelude.{None}
use Prim.Native.Nat.{ℕ, ◌+◌, ◌*◌, ◌≤◌}
use mathlib.Core.Path.{◌≡◌, refl, sym, ap, ◌∙◌, subst}
use mathlib.Core.Bool.{Bool, true, false, false≢true}
use mathlib.Core.List.{List, [], ◌∷◌, ◌++◌}
use native.Mathlib.Omega.{arith}
use lib.Ieee.{Float}
use lib.ListN.{length, length-append}
use Rattle.channel.specs.declared.ChannelConfig.{ChannelConfig}
use Rattle.channel.proofs.Laws.{NoFaults, carried_whole}
use Rattle.path.specs.Direction.{Direction}
use Rattle.path.specs.Rolls.{packet_rolls, rolls_at, rolls_broken}
use Rattle.path.specs.Path.{is_going, new_path}
use Rattle.path.proofs.Laws.{rolls_fine, next_rolls, going_is}
use Rattle.events.specs.Events.{ForwardEvent, events_of}
use Rattle.events.proofs.Laws.{events_none}
use Rattle.clock.specs.Clock.{Submission}
use Rattle.clock.specs.declared.Timing.{Timing}
use Rattle.submission.specs.Submission.{Outgoing, submit, CanSubmit}
use Rattle.submission.proofs.Laws.{event_made, FitsLine, submit_goes, submit_stopped, submit_keeps, going_used, going_events, stopped_events}
use Rattle.completion.specs.Flips.{packet_length, PickMayFlip, FlipsFrom, FlipsOutside}

abbrev pub events_in : Outgoing → List ForwardEvent
events_in o = events_of o.written o.events

-- the forward line has the setup c, and every packet that used rolls has its event
pub record Logged (c : ChannelConfig) (forward : Direction) (events : List ForwardEvent) : Type 0 where
  pub config : forward.path.channel.config ≡ c
  pub used : forward.path.used ≡ packet_rolls * length events

abbrev pub LoggedIn : ChannelConfig → Outgoing → Type 0
LoggedIn c o = Logged c o.forward (events_in o)

-- the last of them, and those before
flips_last : (c : ChannelConfig) (rolls : List Float) (chunks : List (List ℕ)) (at : ℕ) (es : List ForwardEvent) (e : ForwardEvent) → FlipsFrom c rolls chunks at (es ++ e ∷ [])
    → FlipsFrom c rolls chunks at es × PickMayFlip c (rolls_at rolls (at + packet_rolls * length es)) (packet_length chunks e.seq)
flips_last c rolls chunks at [] e h = (tt, subst (λ (n : ℕ). PickMayFlip c (rolls_at rolls n) (packet_length chunks e.seq)) (omega arith) h.0)
flips_last c rolls chunks at (x ∷ es) e h =
    let k = flips_last c rolls chunks (at + packet_rolls) es e h.1 in
    ((h.0, k.0), subst (λ (n : ℕ). PickMayFlip c (rolls_at rolls n) (packet_length chunks e.seq)) (omega arith) k.1)

module _ (timing : Timing) (rolls : List Float) (x : Submission) (wire : List ℕ) (o : Outgoing) where
  -- the run goes on, or it doesn't
  by_stop_lem : (P : Type 0) → ((submit timing rolls x wire o).stop ≡ None → P) → (is_going (submit timing rolls x wire o).stop ≡ false → P) → P
  by_stop_lem P going stopped = go (is_going (submit timing rolls x wire o).stop) refl
    where
      go : (b : Bool) → is_going (submit timing rolls x wire o).stop ≡ b → P
      go true e = going (going_is (submit timing rolls x wire o).stop e)
      go false e = stopped e

  module _ {c : ChannelConfig} (l : LoggedIn c o) where
    pub submit_logged : CanSubmit timing rolls x wire o → LoggedIn c (submit timing rolls x wire o).outgoing
    submit_logged can =
        record {
          config = (submit_keeps timing rolls x wire o can).forward.config ∙ l.config;
          used = by_stop_lem _
              (λ e.
              let n = ap length (going_events timing rolls x wire o e) ∙ length-append (events_in o) (event_made rolls x wire o ∷ []) in
              let u = going_used timing rolls x wire o e in
              let w = l.used in
              u ∙ next _ _ (length (events_in (submit timing rolls x wire o).outgoing)) w n)
              (λ e. ap (λ (y : Outgoing). y.forward.path.used) (submit_stopped timing rolls x wire o e) ∙ l.used ∙ ap (λ (y : List ForwardEvent). packet_rolls * length y) (sym (stopped_events timing rolls x wire o e)));
        }
      where
        next : (u n m : ℕ) → u ≡ packet_rolls * n → m ≡ n + 1 → u + packet_rolls ≡ packet_rolls * m
        next u n m h k = omega arith

    -- what is asked of the events after it is asked of those before
    module _ (chunks : List (List ℕ)) (f : FlipsOutside c rolls chunks (events_in (submit timing rolls x wire o).outgoing)) where
      last : (submit timing rolls x wire o).stop ≡ None → FlipsFrom c rolls chunks 0 (events_in o) × PickMayFlip c (rolls_at rolls (0 + packet_rolls * length (events_in o))) (packet_length chunks x.seq)
      last e = flips_last c rolls chunks 0 (events_in o) (event_made rolls x wire o) (subst (FlipsFrom c rolls chunks 0) (going_events timing rolls x wire o e) f.each)

      pub flips_before : FlipsOutside c rolls chunks (events_in o)
      flips_before = record { each = by_stop_lem _ (λ e. (last e).0) (λ e. subst (FlipsFrom c rolls chunks 0) (stopped_events timing rolls x wire o e) f.each) }

      -- and this packet's pick may be hit, if it was carried
      pub pick_of : FitsLine timing rolls x wire o → PickMayFlip o.forward.path.channel.config (next_rolls o.forward rolls) (packet_length chunks x.seq)
      pick_of h =
          let e = submit_goes timing rolls x wire o h in
          subst (λ (d : ChannelConfig). PickMayFlip d (next_rolls o.forward rolls) (packet_length chunks x.seq)) (sym l.config)
          (subst (λ (n : ℕ). PickMayFlip c (rolls_at rolls n) (packet_length chunks x.seq)) (same _ _ l.used) (last e).1)
        where
          same : (u n : ℕ) → u ≡ n → 0 + n ≡ u
          same u n h = omega arith

-- nothing was submitted yet
pub new_logged : (c : ChannelConfig) (rs : List (List ℕ)) (ps : List ℕ) (rows : List (List ℕ)) → Logged c (new_path c rs ps) (events_of 0 rows)
unfolding new_path
new_logged c rs ps rows = record { config = refl; used = ap (λ (l : List ForwardEvent). packet_rolls * length l) (sym (events_none rows)) }

-- a line without faults has no flips
pub no_faults_outside : {c : ChannelConfig} {rolls : List Float} {events : List ForwardEvent} (chunks : List (List ℕ)) → NoFaults c → rolls_broken rolls ≡ false → packet_rolls * length events ≤ length rolls → FlipsOutside c rolls chunks events
no_faults_outside {c} {rolls} {events} chunks none fine few = record { each = go 0 events (omega (arith, few)) }
  where
    go : (at : ℕ) (es : List ForwardEvent) → at + packet_rolls * length es ≤ length rolls → FlipsFrom c rolls chunks at es
    go at [] h = tt
    go at (e ∷ es) h =
        (λ flipped. absurd (false≢true (sym ((carried_whole c (rolls_at rolls at) none (rolls_fine rolls at (omega (arith, h)) fine)).corrupted (packet_length chunks e.seq)) ∙ flipped)), go (at + packet_rolls) es (omega (arith, h)))
