-- The arrays of a table record have their lengths, and the view goes by their entries.
use mathlib.Core.Path.{◌≡◌, refl, ◌∙◌}
use mathlib.Core.List.{List, [], ◌∷◌}
use Prim.Native.Nat.{ℕ, zero, suc, ◌≤◌, ◌<◌}
use native.Mathlib.Omega.{arith}
use lib.ListN.{length, get_or}
use mir.Val.{Val}
use denote.Laws.{Is}
use denote.Struct.Declared.{row}
use Rattle.model.specs.Link.{blank_link}
use Rattle.model.proofs.Entries.{length_entries, get_d_entries}
use Rattle.table.specs.declared.VirtualLink.{VirtualLink as LinkFields}
use Rattle.table.specs.declared.Table.{Table as TableRecord}
use Rattle.table.specs.View.{view_link, blank_fields, paired, view_links}
use Rattle.table.specs.contracts.Table.{the_type}

pub record Sized (t : TableRecord) : Type 0 where
  pub numbers : length t.numbers ≡ 256
  pub links : length t.links ≡ 256
  pub sizes : length t.sizes ≡ 8

pub sized : (t : TableRecord) (vs : List Val) → Is (row the_type) t vs → Sized t
sized t vs p =
    record {
      numbers = p.1.1.1.1.0.1.0.1;
      links = p.1.1.1.1.1.0.1.0.1;
      sizes = p.1.1.1.1.1.1.0.1.0.1;
    }

-- ---- the view
pub get_d_joined : (numbers : List ℕ) (links : List LinkFields) (i : ℕ) → i < length numbers → i < length links →
    get_or (paired numbers links) i blank_link ≡ view_link (get_or numbers i 0) (get_or links i blank_fields)
unfolding paired
get_d_joined [] links i h k = absurd (omega arith)
get_d_joined (n ∷ numbers) [] i h k = absurd (omega arith)
get_d_joined (n ∷ numbers) (v ∷ links) zero h k = refl
get_d_joined (n ∷ numbers) (v ∷ links) (suc i) h k = get_d_joined numbers links i (omega arith) (omega arith)

pub count_shown : (t : TableRecord) → length (view_links t) ≡ t.count
unfolding view_links
count_shown t = length_entries blank_link t.count (paired t.numbers t.links)

pub link_shown : (t : TableRecord) (i : ℕ) → Sized t → i < t.count → t.count ≤ 256 → get_or (view_links t) i blank_link ≡ view_link (get_or t.numbers i 0) (get_or t.links i blank_fields)
unfolding view_links
link_shown t i s h k =
    get_d_entries blank_link t.count (paired t.numbers t.links) i h
    ∙ get_d_joined t.numbers t.links i (omega arith) (omega arith)
