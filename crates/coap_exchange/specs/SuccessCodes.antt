-- The codes of success (RFC 7252, section 5.9.1; RFC 7959, section 2.9.1).
use Rattle.std.specs.Prelude.{ℕ}
use Rattle.coap_types.specs.declared.message.TheConstants.Code as codes

abbrev pub created : ℕ
created = codes.CREATED.0

abbrev pub deleted : ℕ
deleted = codes.DELETED.0

abbrev pub changed : ℕ
changed = codes.CHANGED.0

abbrev pub content : ℕ
content = codes.CONTENT.0

abbrev pub continue : ℕ
continue = codes.CONTINUE.0
