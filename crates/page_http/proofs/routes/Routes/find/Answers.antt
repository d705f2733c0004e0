use Rattle.std.proofs.Common.{arith, ◌≡◌, ◌<◌, ◌∙◌, ap, get_or, Some}
use Rattle.page_http.specs.declared.routes.Route.{Route}
use Rattle.page_http.proofs.Routing.{route_found, no_route_found, number_destination, reload_destination, has_prefix, page_leads}
use Rattle.page_http.proofs.routes.Routes.find.Goals as goal

pub after_p-requires : goal.after_p-requires
after_p-requires c =
    let byte : get_or c.args.path.now 3 0 < 256 = omega (arith, c.type_inv.path 3) in
    has_prefix c.args.path.now (route_found _ c.args.path.now _ c.args.self.now.its c.in-Ok.ensures.found byte ∙ ap (λ (z : Route). Some z) c.in-Page.is)

pub returns-in-Page : goal.returns-in-Page
returns-in-Page c =
    let byte : get_or c.args.path.now 3 0 < 256 = omega (arith, c.type_inv.path 3) in
    page_leads c.args.path.now _ (route_found _ c.args.path.now _ c.args.self.now.its c.in-Ok.ensures.found byte ∙ ap (λ (z : Route). Some z) c.in-Page.is) c.after_p.ensures

pub returns-in-Number : goal.returns-in-Number
returns-in-Number c =
    let byte : get_or c.args.path.now 3 0 < 256 = omega (arith, c.type_inv.path 3) in
    number_destination _ (route_found _ c.args.path.now _ c.args.self.now.its c.in-Ok.ensures.found byte ∙ ap (λ (z : Route). Some z) c.in-Number.is)

pub returns-in-Reload : goal.returns-in-Reload
returns-in-Reload c =
    let byte : get_or c.args.path.now 3 0 < 256 = omega (arith, c.type_inv.path 3) in
    reload_destination _ (route_found _ c.args.path.now _ c.args.self.now.its c.in-Ok.ensures.found byte ∙ ap (λ (z : Route). Some z) c.in-Reload.is)

pub returns-in-Err : goal.returns-in-Err
returns-in-Err c =
    let byte : get_or c.args.path.now 3 0 < 256 = omega (arith, c.type_inv.path 3) in
    no_route_found _ c.args.path.now c.args.self.now.its c.in-Err.ensures.missing byte
