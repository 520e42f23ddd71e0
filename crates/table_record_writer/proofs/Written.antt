-- The records of a table file as they are laid down.
use mathlib.Core.Path.{◌≡◌, refl, ap, ◌∙◌}
use mathlib.Core.List.{List, [], ◌∷◌, ◌++◌, flat_map, append_assoc, append-nil}
use Prim.Native.Nat.{ℕ, ◌+◌, ◌-◌, ◌*◌, ◌≤◌, ◌<◌}
use native.Mathlib.Numerals.{add-one}
use native.Mathlib.Omega.{arith}
use lib.ListN.{length, get_or, take, drop, length-append}
use lib.Seq.{take-suc, take_all, length-take-le}
use Rattle.model.specs.Link.{VirtualLink}
use Rattle.model.specs.Digits.{digits_of}
use Rattle.model.specs.TableFile.{to_bytes, record_bytes, counts_body, link_body}
use Rattle.model.proofs.FileWrite.{length_record, length-link_body}
use Rattle.model.proofs.Lists.{length-flat_map}
use Rattle.model.proofs.Bytes.{length-to_bytes}
use Rattle.little_endian.specs.Output.{laid}
use Rattle.little_endian.proofs.Laid.{length_laid, none_laid, laid_behind, laid_in_part, then_laid}
use Rattle.table_record_writer.specs.Records.{link_record}

-- ---- header and bodies
pub header_laid : (at len kind : ℕ) (output x y : List ℕ) → at + 4 ≤ length output → x ≡ laid at (to_bytes 2 len) output → y ≡ laid (at + 2) (to_bytes 2 kind) x →
    y ≡ laid at (to_bytes 2 len ++ to_bytes 2 kind) output
unfolding digits_of
header_laid at len kind output x y h p q = then_laid at (at + 2) (to_bytes 2 len) (to_bytes 2 kind) output x y refl (omega arith) p q

pub counts_laid : (lines n : ℕ) (output x y : List ℕ) → 4 ≤ length output → x ≡ laid 0 (to_bytes 2 lines) output → y ≡ laid 2 (to_bytes 2 n) x → y ≡ laid 0 (counts_body lines n) output
unfolding counts_body
counts_laid lines n output x y h p q = header_laid 0 lines n output x y h p q

module _ (v : VirtualLink) (output a b c d e f g j : List ℕ) (room : 14 ≤ length output) where
  pub link_laid : a ≡ laid 0 (to_bytes 2 v.number) output → b ≡ laid 2 (to_bytes 1 v.line) a → c ≡ laid 3 (to_bytes 1 v.priority) b → d ≡ laid 4 (to_bytes 1 v.code) c →
      e ≡ laid 5 (to_bytes 1 0) d → f ≡ laid 6 (to_bytes 2 v.least) e → g ≡ laid 8 (to_bytes 2 v.greatest) f → j ≡ laid 10 (to_bytes 4 v.jitter) g → j ≡ laid 0 (link_body v) output
  unfolding link_body digits_of
  link_laid pa pb pc pd pe pf pg pj =
      let n = to_bytes 2 v.number in
      let l = n ++ to_bytes 1 v.line in
      let p = l ++ to_bytes 1 v.priority in
      let k = p ++ to_bytes 1 v.code in
      let z = k ++ to_bytes 1 0 in
      let s = z ++ to_bytes 2 v.least in
      let t = s ++ to_bytes 2 v.greatest in
      let qb = then_laid 0 2 n (to_bytes 1 v.line) output a b refl (omega arith) pa pb in
      let qc = then_laid 0 3 l (to_bytes 1 v.priority) output b c refl (omega arith) qb pc in
      let qd = then_laid 0 4 p (to_bytes 1 v.code) output c d refl (omega arith) qc pd in
      let qe = then_laid 0 5 k (to_bytes 1 0) output d e refl (omega arith) qd pe in
      let qf = then_laid 0 6 z (to_bytes 2 v.least) output e f refl (omega arith) qe pf in
      let qg = then_laid 0 8 s (to_bytes 2 v.greatest) output f g refl (omega arith) qf pg in
      then_laid 0 10 t (to_bytes 4 v.jitter) output g j refl (omega arith) qg pj

-- ---- a record: the body goes into the part of the output behind length and kind
pub record_laid : (kind len at : ℕ) (body output x part : List ℕ) → 2 + length body ≡ len → at + 4 + length body ≤ length output →
    x ≡ laid at (to_bytes 2 len ++ to_bytes 2 kind) output → part ≡ laid 0 body (take (length x - (at + 4)) (drop (at + 4) x)) →
    take (at + 4) x ++ (part ++ drop (length x - (at + 4)) (drop (at + 4) x)) ≡ laid at (record_bytes kind body) output
unfolding record_bytes
record_laid kind len at body output x part e h p q =
    let four : length (to_bytes 2 len ++ to_bytes 2 kind) ≡ 4 = header_four len kind in
    let same : length x ≡ length output = ap length p ∙ length_laid at (to_bytes 2 len ++ to_bytes 2 kind) output (omega arith) in
    laid_in_part (at + 4) body x part (omega arith) q
    ∙ ap (laid (at + 4) body) p
    ∙ laid_behind at (at + 4) (to_bytes 2 len ++ to_bytes 2 kind) body output (omega arith) (omega arith)
    ∙ rw (← e)
  where
    header_four : (len kind : ℕ) → length (to_bytes 2 len ++ to_bytes 2 kind) ≡ 4
    header_four len kind = rw (length-append, length-to_bytes 2 len, length-to_bytes 2 kind)

-- ---- one after another
flat_append {ℓ} : {A : Type ℓ} (f : A → List ℕ) (a b : List A) → flat_map f (a ++ b) ≡ flat_map f a ++ flat_map f b
unfolding flat_map
flat_append f [] b = refl
flat_append f (x ∷ a) b = rw (flat_append f a b, append_assoc)

flat_more {ℓ} : {A : Type ℓ} (f : A → List ℕ) (l : List A) (i : ℕ) (d : A) → i < length l → flat_map f (take (i + 1) l) ≡ flat_map f (take i l) ++ f (get_or l i d)
unfolding flat_map
flat_more f l i d h = rw (add-one, take-suc l i d h, flat_append f (take i l) (get_or l i d ∷ []), append-nil (f (get_or l i d)))

module _ {A : Type 0} (f : A → List ℕ) (k : ℕ) (each : (x : A) → length (f x) ≡ k) (at : ℕ) (l : List A) where
  flat_length : (i : ℕ) → i ≤ length l → length (flat_map f (take i l)) ≡ k * i
  flat_length i h = length-flat_map f k each (take i l) ∙ ap (λ (n : ℕ). k * n) (length-take-le i l h)

  pub first_laid : (output : List ℕ) → output ≡ laid at (flat_map f (take 0 l)) output
  unfolding flat_map
  first_laid output = none_laid at output

  pub more_laid : (i n : ℕ) (d : A) (output x y : List ℕ) → i < length l → n ≡ at + k * i → n + k ≤ length output →
      x ≡ laid at (flat_map f (take i l)) output → y ≡ laid n (f (get_or l i d)) x → y ≡ laid at (flat_map f (take (i + 1) l)) output
  more_laid i n d output x y h e room p q =
      rw (flat_more f l i d h)
      (then_laid at n (flat_map f (take i l)) (f (get_or l i d)) output x y (omega (arith, flat_length i (omega arith))) (omega (arith, each (get_or l i d))) p q)

  pub all_laid : (i : ℕ) (output x : List ℕ) → length l ≤ i → x ≡ laid at (flat_map f (take i l)) output → x ≡ laid at (flat_map f l) output
  all_laid i output x h p = rw (take_all i l h) at p

-- the records of kind 2
pub length-link_record : (v : VirtualLink) → length (link_record v) ≡ 18
length-link_record v = simp (length_record, length-link_body)
