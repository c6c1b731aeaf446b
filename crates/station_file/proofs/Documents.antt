-- The document that bytes are, as the reader of TOML tells it.
use Rattle.std.proofs.Common.{◌≡◌, List, ℕ, Bool, true, false, Some, None, refl}
use Rattle.std.proofs.lemmas.Str.{IsUtf8-from_is_utf8, is_utf8-from_IsUtf8}
use Rattle.std.specs.Str.{IsUtf8, is_utf8}
use Rattle.toml.specs.Data.{Members}
use Rattle.toml.specs.Parse.{parse_document}
use Rattle.station_file.specs.Lines.{document}

pub read_document : (text : List ℕ) (ms : Members) → IsUtf8 text → parse_document text ≡ Some ms → document text ≡ Some ms
read_document text ms is read = rw (is_utf8-from_IsUtf8 text is) read

refused_by : (text : List ℕ) (b : Bool) → is_utf8 text ≡ b → (IsUtf8 text → parse_document text ≡ None) → document text ≡ None
refused_by text true is refused = rw is (refused (IsUtf8-from_is_utf8 text is))
refused_by text false is refused = rw is refl

pub refused_document : (text : List ℕ) → (IsUtf8 text → parse_document text ≡ None) → document text ≡ None
refused_document text refused = refused_by text (is_utf8 text) refl refused
