-- A response of the code as a response of the definitions.
use Rattle.lq_volume.specs.Lookup.{listed}
use Rattle.lq_desk.specs.Reply.{answer_of}
use Rattle.lq_script_desk.specs.declared.response.Response.{Response as Response_}
use Rattle.lq_script_desk.specs.declared.response.Response.TheVariants as response
use Rattle.lq_script_desk.specs.Response.{Response, Answers, Refuses, Found, Listed, Fetched, Rebuilt}

abbrev pub response_of : Response_ → Response
response_of (response.Reply slot reply) = Answers slot (answer_of reply)
response_of (response.Refused refusal) = Refuses refusal
response_of (response.Found node) = Found node
response_of (response.Listed node listing) = Listed node (listed listing)
response_of (response.Fetched at result) = Fetched at result.items
response_of (response.Rebuilt change result settled) = Rebuilt change result.items settled
