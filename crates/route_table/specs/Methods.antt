-- The methods that routes have (RFC 9110, section 9.3). They are compared exactly.
use Rattle.std.specs.Prelude.{ℕ, List, codes, Option, Some, None, if◌then◌else◌}
use Rattle.std.specs.Str.{bytes_eq}
use Rattle.route_table.specs.declared.methods.Method.{Method}
use Rattle.route_table.specs.declared.methods.Method.TheVariants.{Get, Put, Post, Delete}

unfoldable pub method_of : List ℕ → Option Method
method_of method =
    if bytes_eq method (codes "GET") then Some Get
    else if bytes_eq method (codes "PUT") then Some Put
    else if bytes_eq method (codes "POST") then Some Post
    else if bytes_eq method (codes "DELETE") then Some Delete
    else None
