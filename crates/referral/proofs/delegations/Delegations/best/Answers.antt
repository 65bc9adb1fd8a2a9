use Rattle.std.proofs.Common.{◌≡◌, Some, sym, ap, ◌∙◌, subst}
use Rattle.std.specs.Prelude.{option_map}
use Rattle.referral.specs.Cuts.{Cut, known_of, under, nearest, IsBest}
use Rattle.referral.proofs.Steps.{best_some, best_none, best_over, moved_some, moved_members}
use Rattle.referral.proofs.Shown.{promoted_shows}
use Rattle.referral.proofs.delegations.Delegations.best.Goals as goal

pub returns-in-None-clause-relation : goal.returns-in-None-clause-relation
returns-in-None-clause-relation g c =
    let q = c.args.name.now in
    let es = c.args.self.now.entries in
    best_none q c.args.now es
    (ap (λ s. under c.find.new.at (option_map (known_of c.find.new.at) s)) (sym c.in-None.is) ∙ (c.in_ok-servers.ensures ∙ ap (λ n. nearest n c.args.now es) c.in_ok-at.ensures.cases))

pub returns-in-Some-clause-relation : goal.returns-in-Some-clause-relation
returns-in-Some-clause-relation g c =
    let q = c.args.name.now in
    let es = c.args.self.now.entries in
    let found : under c.find.new.at (Some (known_of c.find.new.at c.in-Some.servers)) ≡ nearest q c.args.now es =
    ap (λ s. under c.find.new.at (option_map (known_of c.find.new.at) s)) (sym c.in-Some.is) ∙ (c.in_ok-servers.ensures ∙ ap (λ n. nearest n c.args.now es) c.in_ok-at.ensures.cases) in
    subst (λ (x : Cut). IsBest q c.args.now es (Some x)) (sym c.into_cut.ensures) (best_some q c.find.new.at c.args.now es (known_of c.find.new.at c.in-Some.servers) found)

pub returns-in-Some-clause-over : goal.returns-in-Some-clause-over
returns-in-Some-clause-over g c =
    let q = c.args.name.now in
    let es = c.args.self.now.entries in
    let found : under c.find.new.at (Some (known_of c.find.new.at c.in-Some.servers)) ≡ nearest q c.args.now es =
    ap (λ s. under c.find.new.at (option_map (known_of c.find.new.at) s)) (sym c.in-Some.is) ∙ (c.in_ok-servers.ensures ∙ ap (λ n. nearest n c.args.now es) c.in_ok-at.ensures.cases) in
    best_over q c.find.new.at c.args.now es (known_of c.find.new.at c.in-Some.servers) found c.into_cut.result c.into_cut.ensures

pub returns-in-Some-clause-ok : goal.returns-in-Some-clause-ok
returns-in-Some-clause-ok g c =
    let q = c.args.name.now in
    let es = c.args.self.now.entries in
    let found : under c.find.new.at (Some (known_of c.find.new.at c.in-Some.servers)) ≡ nearest q c.args.now es =
    ap (λ s. under c.find.new.at (option_map (known_of c.find.new.at) s)) (sym c.in-Some.is) ∙ (c.in_ok-servers.ensures ∙ ap (λ n. nearest n c.args.now es) c.in_ok-at.ensures.cases) in
    moved_some c.args.self.now _ c.find.new.at (known_of c.find.new.at c.in-Some.servers) (nearest q c.args.now es) found
    (promoted_shows c.args.self.now c.self.inside.entries c.self.view_is c.find.new.at c.promote.new.self c.promote.ensures.entries)

pub returns-in-Some-clause-members : goal.returns-in-Some-clause-members
returns-in-Some-clause-members g c =
    moved_members c.args.self.now _ (nearest c.args.name.now c.args.now c.args.self.now.entries) (returns-in-Some-clause-ok g c)
