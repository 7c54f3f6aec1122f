use Rattle.combinator.proofs.group.Group.of.Goals as goal

pub invariant_of-result : goal.invariant_of-result
invariant_of-result c = (
  record {
    head = c.known.ensures.usable;
    there = c.requires.there;
    alike = c.requires.alike;
    usable = c.know_all.ensures.usable;
    fields = c.know_all.ensures.fields;
  },
  c.greatest_expiry.ensures.over c.args.head.now,
  c.greatest_expiry.ensures.reached c.args.head.now,
  c.least_info.ensures c.args.head.now,
)
