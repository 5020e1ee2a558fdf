-- What a code makes of its message (RFC 7252, section 12.1).
use Rattle.std.specs.Prelude.{ℕ, ◌/◌, ◌==◌, ◌&&◌, nat_le, if◌then◌else◌}
use Rattle.coap_types.specs.declared.role.Role.{Role}
use Rattle.coap_types.specs.declared.role.Role.TheVariants.{Empty, Request, Response, Reserved}

-- 0.00 is Empty, the other codes of class 0 are requests, the classes 2 to 5 responses, and 1, 6 and 7 are reserved.
-- The class is the upper three bits.
abbrev pub role_of : ℕ → Role
role_of code =
    if code == 0 then Empty
    else if code / 32 == 0 then Request
    else if nat_le 2 (code / 32) && nat_le (code / 32) 5 then Response
    else Reserved
