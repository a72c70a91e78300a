-- A text that several calls write one after another: what is still to be written, for functions and their loops.
use Prim.Native.Nat.{ℕ, ◌+◌, ◌≤◌, ◌<◌}
use mathlib.Core.Path.{◌≡◌, refl, sym, ap, subst, ◌∙◌}
use mathlib.Core.List.{List, [], ◌∷◌, ◌++◌, append-nil}
use native.Mathlib.Omega.{arith}
use native.Mathlib.Nat.{add-zero}
use native.Mathlib.Numerals.{add-one}
use lib.ListN.{length, take, drop, get_or, length-append, drop_of_length-le, take-append-drop}
use lib.Seq.{drop-cons}
use Rattle.text.specs.Place.{written_at}
use Rattle.text.proofs.Numbers.{length_written, written_after}

-- of the whole text, which is to stand at a place of a buffer, the rest goes to `next` of what `out` holds now
pub record Rest (buffer : List ℕ) (at : ℕ) (whole out : List ℕ) (next : ℕ) (rest : List ℕ) : Type 0 where
  pub text : written_at out next rest ≡ written_at buffer at whole
  pub place : next + length rest ≡ at + length whole
  pub size : length out ≡ length buffer
  pub room : at + length whole ≤ length buffer

written_nothing : (out : List ℕ) (next : ℕ) → written_at out next [] ≡ out
written_nothing out next =
    ap (λ (k : ℕ). take next out ++ [] ++ drop k out) (add-zero next)
    ∙ ap (λ (l : List ℕ). l ++ drop next out) (append-nil (take next out))
    ∙ take-append-drop next out

module _ {buffer : List ℕ} {at : ℕ} {whole : List ℕ} where
  pub rest_first : at + length whole ≤ length buffer → Rest buffer at whole buffer at whole
  rest_first h = record { text = refl; place = refl; size = refl; room = h }

  pub rest_room : {out rest : List ℕ} {next : ℕ} → Rest buffer at whole out next rest → next + length rest ≤ length out
  rest_room r =
      let p = r.place in
      let s = r.size in
      let h = r.room in omega arith

  -- the last piece
  pub rest_last : {out rest out' : List ℕ} {next next' : ℕ} → Rest buffer at whole out next rest → next' ≡ next + length rest
      → out' ≡ written_at out next rest → (next' ≡ at + length whole) × (out' ≡ written_at buffer at whole)
  rest_last r n e = (n ∙ r.place, e ∙ r.text)

  pub rest_end : {out : List ℕ} {next : ℕ} → Rest buffer at whole out next [] → (next ≡ at + length whole) × (out ≡ written_at buffer at whole)
  rest_end {out} {next} r = rest_last r (sym (add-zero next)) (sym (written_nothing out next))

  -- a piece and what comes after it
  module _ (piece after : List ℕ) {out : List ℕ} {next : ℕ} (r : Rest buffer at whole out next (piece ++ after)) where
    pub piece_room : next + length piece ≤ length out
    piece_room = let l = length-append piece after in let h = rest_room r in omega arith

    pub piece_next : {out' : List ℕ} {next' : ℕ} → next' ≡ next + length piece → out' ≡ written_at out next piece → Rest buffer at whole out' next' after
    piece_next {out'} {next'} n e =
        let l = length-append piece after in
        let p = r.place in
        let s = r.size in
        let o = ap length e ∙ length_written out next piece piece_room in
        record {
          text = rw (e, n) (written_after out next piece after piece_room) ∙ r.text;
          place = omega arith;
          size = omega arith;
          room = r.room;
        }

-- a line for each of several rows, written by a loop
module _ (line : List ℕ → List ℕ) (lines : List (List ℕ) → List ℕ) (nothing : lines [] ≡ [])
    (one_more : (r : List ℕ) (rs : List (List ℕ)) → lines (r ∷ rs) ≡ line r ++ lines rs) where
  pub lines_end : (rows : List (List ℕ)) (i : ℕ) → length rows ≤ i → lines (drop i rows) ≡ []
  lines_end rows i h = rw (drop_of_length-le rows h) nothing

  pub lines_step : (rows : List (List ℕ)) (i : ℕ) → i < length rows → lines (drop i rows) ≡ line (get_or rows i []) ++ lines (drop (i + 1) rows)
  lines_step rows i h = rw (drop-cons rows i [] h, add-one) (one_more (get_or rows i []) _)

  module _ (rows : List (List ℕ)) (i : ℕ) {buffer : List ℕ} {at : ℕ} {whole out : List ℕ} {next : ℕ}
      (r : Rest buffer at whole out next (lines (drop i rows))) where
    step_rest : i < length rows → Rest buffer at whole out next (line (get_or rows i []) ++ lines (drop (i + 1) rows))
    step_rest h = subst (Rest buffer at whole out next) (lines_step rows i h) r

    pub line_room : i < length rows → next + length (line (get_or rows i [])) ≤ length out
    line_room h = piece_room (line (get_or rows i [])) (lines (drop (i + 1) rows)) (step_rest h)

    pub line_next : {out' : List ℕ} {next' : ℕ} → i < length rows → next' ≡ next + length (line (get_or rows i []))
        → out' ≡ written_at out next (line (get_or rows i [])) → Rest buffer at whole out' next' (lines (drop (i + 1) rows))
    line_next h n e = piece_next (line (get_or rows i [])) (lines (drop (i + 1) rows)) (step_rest h) n e

    pub line_end : length rows ≤ i → (next ≡ at + length whole) × (out ≡ written_at buffer at whole)
    line_end h = rest_end (subst (Rest buffer at whole out next) (lines_end rows i h) r)
