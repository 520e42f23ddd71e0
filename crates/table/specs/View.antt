-- The table record of the code and the table of the model: the view of a record, and the record of a table.
use Rattle.std.specs.Prelude.{List, [], ◌∷◌, map, ℕ, length}
use Rattle.model.specs.Basics.{entries}
use Rattle.model.specs.Link.{VirtualLink, blank_link}
use Rattle.model.specs.Table.{Table}
use Rattle.table.specs.declared.VirtualLink.{VirtualLink as LinkFields}
use Rattle.table.specs.declared.Table.{Table as TableRecord}

-- a link is its number and its fields, which the record keeps apart
abbrev pub view_link : ℕ → LinkFields → VirtualLink
view_link number v =
    record {
      number = number;
      line = v.line;
      priority = v.priority;
      code = v.code;
      least = v.least;
      greatest = v.greatest;
      jitter = v.jitter;
    }

abbrev pub record_link : VirtualLink → LinkFields
record_link v = record { line = v.line; priority = v.priority; code = v.code; least = v.least; greatest = v.greatest; jitter = v.jitter }

abbrev pub blank_fields : LinkFields
blank_fields = record_link blank_link

unfoldable pub paired : List ℕ → List LinkFields → List VirtualLink
paired [] links = []
paired (n ∷ numbers) [] = []
paired (n ∷ numbers) (v ∷ links) = view_link n v ∷ paired numbers links

-- "Entries of a record behind its counts are no part of a table": the first count entries
unfoldable pub view_links : TableRecord → List VirtualLink
view_links t = entries blank_link t.count (paired t.numbers t.links)

unfoldable pub view_table : TableRecord → Table
view_table t = record { lines = t.lines; links = view_links t; sizes = t.sizes }

-- the record of a table: blank entries stand behind its count
unfoldable pub record_table : Table → TableRecord
record_table t =
    record {
      lines = t.lines;
      count = length t.links;
      numbers = entries 0 256 (map (λ (v : VirtualLink). v.number) t.links);
      links = entries blank_fields 256 (map record_link t.links);
      sizes = t.sizes;
    }
