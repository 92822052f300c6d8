-- A record's front, piece by piece as it is stored.
use Rattle.std.specs.Prelude.{ℕ, List, ◌++◌}
use Rattle.rules.specs.Bytes.{number_bytes}
use Rattle.rules.specs.Layout.{record_signature, start_bytes}
use Rattle.rules.specs.declared.Form.{Form}
use Rattle.rules.specs.declared.Record.{Record}

-- A record's bytes up to and with its time.
unfoldable pub descent_bytes : Form → Record → List ℕ → List ℕ
descent_bytes f r time = start_bytes f record_signature r.revision ++ number_bytes 8 r.parent ++ time
