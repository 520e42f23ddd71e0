-- The bytes of a link's record.
use Rattle.std.specs.Prelude.{List, ℕ}
use Rattle.model.specs.Link.{VirtualLink}
use Rattle.model.specs.TableFile.{record_bytes, link_body}

abbrev pub link_record : VirtualLink → List ℕ
link_record v = record_bytes 2 (link_body v)
