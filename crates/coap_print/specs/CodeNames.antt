-- What codes are called (RFC 7252, sections 4.1, 12.1.1 and 12.1.2, and RFC 7959, section 6).
use Rattle.std.specs.Prelude.{ℕ, Bool, not, ◌&&◌, ◌/◌, List, [], ◌∷◌, ◌==◌, codes, Option, Some, None, if◌then◌else◌}

-- the first name of this detail
abbrev pub name_at : List (ℕ × List ℕ) → ℕ → Option (List ℕ)
name_at [] detail = None
name_at (row ∷ rows) detail = if row.0 == detail then Some row.1 else name_at rows detail

-- .. of class 0, the requests
abbrev pub request_names : List (ℕ × List ℕ)
request_names =
    (0, codes "Empty") ∷ (1, codes "GET") ∷ (2, codes "POST") ∷ (3, codes "PUT") ∷ (4, codes "DELETE") ∷ []

-- .. of class 2
abbrev pub success_names : List (ℕ × List ℕ)
success_names =
    (1, codes "Created") ∷ (2, codes "Deleted") ∷ (3, codes "Valid") ∷ (4, codes "Changed") ∷ (5, codes "Content")
    ∷ (31, codes "Continue") ∷ []

-- .. of class 4
abbrev pub client_error_names : List (ℕ × List ℕ)
client_error_names =
    (0, codes "Bad Request") ∷ (1, codes "Unauthorized") ∷ (2, codes "Bad Option") ∷ (3, codes "Forbidden")
    ∷ (4, codes "Not Found") ∷ (5, codes "Method Not Allowed") ∷ (6, codes "Not Acceptable")
    ∷ (8, codes "Request Entity Incomplete") ∷ (12, codes "Precondition Failed")
    ∷ (13, codes "Request Entity Too Large")
    ∷ (15, codes "Unsupported Content-Format") ∷ []

-- .. of class 5
abbrev pub server_error_names : List (ℕ × List ℕ)
server_error_names =
    (0, codes "Internal Server Error") ∷ (1, codes "Not Implemented") ∷ (2, codes "Bad Gateway")
    ∷ (3, codes "Service Unavailable") ∷ (4, codes "Gateway Timeout") ∷ (5, codes "Proxying Not Supported") ∷ []

-- the names of a class
abbrev pub names_of : ℕ → List (ℕ × List ℕ)
names_of class =
    if class == 0 then request_names
    else if class == 2 then success_names
    else if class == 4 then client_error_names
    else if class == 5 then server_error_names
    else []

-- what the code of this class and detail is called
abbrev pub code_name : ℕ → ℕ → Option (List ℕ)
code_name class detail = name_at (names_of class) detail

-- a code of class 0 is that of a request, but for the one of an Empty message (RFC 7252, section 12.1.1)
abbrev pub is_request_code : ℕ → Bool
is_request_code code = (code / 32 == 0) && not (code == 0)
