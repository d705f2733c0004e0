-- The routes as the router keeps them: patterns in their order, each with its route.
use Rattle.std.specs.Prelude.{ℕ, List, [], ◌∷◌, Result, Ok, Err, codes}
use Rattle.matchit.specs.Rows.{RowsOf}
use Rattle.matchit.specs.Route.{parse_route, Scan}
use Rattle.matchit.specs.Router.{RouteOf, route_from}
use Rattle.matchit.specs.Order.{placed}
use Rattle.matchit.specs.declared.error.InsertError.{InsertError}
use Rattle.page_http.specs.declared.routes.Route.{Route}
use Rattle.page_http.specs.declared.routes.Route.TheVariants as route

abbrev pub with_scan : Result Scan InsertError → Route → RowsOf (RouteOf Route)
    → RowsOf (RouteOf Route)
with_scan (Ok s) value rs = placed (s.pattern, route_from s value) rs
with_scan (Err e) value rs = rs

-- the rows with one route more
abbrev pub with_route : List ℕ → Route → RowsOf (RouteOf Route) → RowsOf (RouteOf Route)
with_route text value rs = with_scan (parse_route text) value rs

-- the rows of the three routes
abbrev pub rows : RowsOf (RouteOf Route)
rows =
    with_route (codes "/reload") route.Reload
    (with_route (codes "/set") route.Number
    (with_route (codes "/p/{name}") route.Page []))
