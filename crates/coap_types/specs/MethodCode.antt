-- The codes of the methods (RFC 7252, section 12.1.1).
use Rattle.std.specs.Prelude.{ℕ, ◌==◌, Option, Some, None, if◌then◌else◌}
use Rattle.coap_types.specs.declared.message.Code.{Code}
use Rattle.coap_types.specs.declared.message.TheConstants.Code.{GET as get, POST as post, PUT as put, DELETE as delete}
use Rattle.coap_types.specs.declared.request.Method.{Method}
use Rattle.coap_types.specs.declared.request.Method.TheVariants.{Get, Post, Put, Delete}

abbrev pub method_code : Method → Code
method_code Get = get
method_code Post = post
method_code Put = put
method_code Delete = delete

-- the method of a code, where it is that of one
abbrev pub method_of : ℕ → Option Method
method_of code =
    if code == get.0 then Some Get
    else if code == post.0 then Some Post
    else if code == put.0 then Some Put
    else if code == delete.0 then Some Delete
    else None
