-- The variable names (variable.rs): VARIABLE_MAP, the enum's places, and the tests on a place.
use Rattle.std.specs.Prelude.{ℕ, Bool, true, false, List, [], ◌∷◌, get_or, Option}
use Prim.Native.String.{String}
use Rattle.ascii.specs.Fold.{uppered}
use Rattle.names.specs.Tables.{Row, row, find}

-- VARIABLE_MAP in the Rust's own order: the name, and the place of its variant in the enum VariableName
unfoldable pub variables : List Row
variables =
    row "ARGS" 0 ∷
    row "ARGS_GET" 1 ∷
    row "ARGS_POST" 2 ∷
    row "ARGS_NAMES" 3 ∷
    row "ARGS_GET_NAMES" 4 ∷
    row "ARGS_POST_NAMES" 5 ∷
    row "ARGS_COMBINED_SIZE" 6 ∷
    row "REQUEST_URI" 7 ∷
    row "REQUEST_URI_RAW" 8 ∷
    row "REQUEST_FILENAME" 9 ∷
    row "REQUEST_BASENAME" 10 ∷
    row "REQUEST_LINE" 11 ∷
    row "REQUEST_METHOD" 12 ∷
    row "REQUEST_PROTOCOL" 13 ∷
    row "REQUEST_HEADERS" 14 ∷
    row "REQUEST_HEADERS_NAMES" 15 ∷
    row "REQUEST_COOKIES" 16 ∷
    row "REQUEST_COOKIES_NAMES" 17 ∷
    row "REQUEST_BODY" 18 ∷
    row "REQUEST_BODY_LENGTH" 19 ∷
    row "QUERY_STRING" 20 ∷
    row "RESPONSE_STATUS" 21 ∷
    row "RESPONSE_PROTOCOL" 22 ∷
    row "RESPONSE_HEADERS" 23 ∷
    row "RESPONSE_HEADERS_NAMES" 24 ∷
    row "RESPONSE_BODY" 25 ∷
    row "RESPONSE_CONTENT_TYPE" 26 ∷
    row "RESPONSE_CONTENT_LENGTH" 27 ∷
    row "REMOTE_ADDR" 28 ∷
    row "REMOTE_PORT" 29 ∷
    row "REMOTE_HOST" 30 ∷
    row "REMOTE_USER" 31 ∷
    row "SERVER_ADDR" 32 ∷
    row "SERVER_PORT" 33 ∷
    row "SERVER_NAME" 34 ∷
    row "TX" 35 ∷
    row "SESSION" 36 ∷
    row "ENV" 37 ∷
    row "IP" 38 ∷
    row "GLOBAL" 39 ∷
    row "RESOURCE" 40 ∷
    row "USER" 41 ∷
    row "GEO" 42 ∷
    row "MATCHED_VAR" 43 ∷
    row "MATCHED_VARS" 44 ∷
    row "MATCHED_VAR_NAME" 45 ∷
    row "MATCHED_VARS_NAMES" 46 ∷
    row "TIME" 47 ∷
    row "TIME_EPOCH" 48 ∷
    row "TIME_DAY" 49 ∷
    row "TIME_HOUR" 50 ∷
    row "TIME_MIN" 51 ∷
    row "TIME_SEC" 52 ∷
    row "TIME_WDAY" 53 ∷
    row "TIME_MON" 54 ∷
    row "TIME_YEAR" 55 ∷
    row "FILES" 56 ∷
    row "FILES_SIZES" 57 ∷
    row "FILES_TMPNAMES" 58 ∷
    row "FILES_COMBINED_SIZE" 59 ∷
    row "FILES_NAMES" 60 ∷
    row "UNIQUE_ID" 61 ∷
    row "DURATION" 64 ∷
    row "HIGHEST_SEVERITY" 81 ∷
    row "STATUS_LINE" 82 ∷
    row "FULL_REQUEST" 83 ∷
    row "FULL_REQUEST_LENGTH" 84 ∷
    row "AUTH_TYPE" 85 ∷
    row "XML" 79 ∷
    row "REQBODY_PROCESSOR" 86 ∷
    row "REQBODY_ERROR" 87 ∷
    row "REQBODY_ERROR_MSG" 88 ∷
    row "REQBODY_PROCESSOR_ERROR" 89 ∷
    row "REQBODY_PROCESSOR_ERROR_MSG" 90 ∷
    row "MULTIPART_STRICT_ERROR" 91 ∷  -- MultipartStrictCheck, not MultipartStrictError (76)
    row "MULTIPART_PART_HEADERS" 78 ∷
    []

-- VariableName::from_str: letter case ignored in ASCII
unfoldable pub variable_code : List ℕ → Option ℕ
variable_code name = find variables (uppered name)

-- a place of the enum: its variant, whether it is a collection, whether it is implemented
pub record Place : Type 0 where
  pub variant : String
  pub collection : Bool
  pub implemented : Bool

abbrev pub place : String → Bool → Bool → Place
place v c i = record { variant = v; collection = c; implemented = i }

-- what stands past the enum's end: a test on a code that names nothing answers no
abbrev pub nowhere : Place
nowhere = place "" false false

-- the enum VariableName in its order, from 0
unfoldable pub places : List Place
places =
    place "Args" true true ∷
    place "ArgsGet" true true ∷
    place "ArgsPost" true true ∷
    place "ArgsNames" true true ∷
    place "ArgsGetNames" false true ∷
    place "ArgsPostNames" false true ∷
    place "ArgsCombinedSize" false true ∷
    place "RequestUri" false true ∷
    place "RequestUriRaw" false true ∷
    place "RequestFilename" false true ∷
    place "RequestBasename" false true ∷
    place "RequestLine" false true ∷
    place "RequestMethod" false true ∷
    place "RequestProtocol" false true ∷
    place "RequestHeaders" true true ∷
    place "RequestHeadersNames" true true ∷
    place "RequestCookies" true true ∷
    place "RequestCookiesNames" true true ∷
    place "RequestBody" false true ∷
    place "RequestBodyLength" false true ∷
    place "QueryString" false true ∷
    place "ResponseStatus" false true ∷
    place "ResponseProtocol" false false ∷
    place "ResponseHeaders" true true ∷
    place "ResponseHeadersNames" true false ∷
    place "ResponseBody" false true ∷
    place "ResponseContentType" false true ∷
    place "ResponseContentLength" false false ∷
    place "RemoteAddr" false true ∷
    place "RemotePort" false true ∷
    place "RemoteHost" false false ∷
    place "RemoteUser" false false ∷
    place "ServerAddr" false true ∷
    place "ServerPort" false true ∷
    place "ServerName" false true ∷
    place "Tx" true true ∷
    place "Session" true false ∷
    place "Env" true false ∷
    place "Ip" true false ∷
    place "Global" true false ∷
    place "Resource" true false ∷
    place "User" true false ∷
    place "Geo" true false ∷
    place "MatchedVar" false true ∷
    place "MatchedVars" true true ∷
    place "MatchedVarName" false true ∷
    place "MatchedVarsNames" true true ∷
    place "Time" false false ∷
    place "TimeEpoch" false false ∷
    place "TimeDay" false false ∷
    place "TimeHour" false false ∷
    place "TimeMin" false false ∷
    place "TimeSec" false false ∷
    place "TimeWday" false false ∷
    place "TimeMon" false false ∷
    place "TimeYear" false false ∷
    place "Files" true true ∷
    place "FilesSizes" true false ∷
    place "FilesTmpnames" true false ∷
    place "FilesCombinedSize" false false ∷
    place "FilesNames" true true ∷
    place "UniqueId" false false ∷
    place "InboundAnomalyScore" false false ∷
    place "OutboundAnomalyScore" false false ∷
    place "Duration" false false ∷
    place "MultipartBoundaryQuoted" false false ∷
    place "MultipartBoundaryWhitespace" false false ∷
    place "MultipartDataAfter" false false ∷
    place "MultipartDataBefore" false false ∷
    place "MultipartFileLimitExceeded" false false ∷
    place "MultipartHeaderFolding" false false ∷
    place "MultipartInvalidHeaderFolding" false false ∷
    place "MultipartInvalidPart" false false ∷
    place "MultipartInvalidQuoting" false false ∷
    place "MultipartLfLine" false false ∷
    place "MultipartMissingSemicolon" false false ∷
    place "MultipartStrictError" false false ∷
    place "MultipartUnmatchedBoundary" false false ∷
    place "MultipartPartHeaders" true true ∷
    place "Xml" false true ∷
    place "WebserverErrorLog" false false ∷
    place "HighestSeverity" false false ∷
    place "StatusLine" false false ∷
    place "FullRequest" false false ∷
    place "FullRequestLength" false false ∷
    place "AuthType" false false ∷
    place "ReqBodyProcessor" false true ∷
    place "ReqBodyError" false true ∷
    place "ReqBodyErrorMsg" false true ∷
    place "ReqBodyProcessorError" false true ∷
    place "ReqBodyProcessorErrorMsg" false true ∷
    place "MultipartStrictCheck" false false ∷
    []

-- VariableName::is_collection
unfoldable pub is_collection : ℕ → Bool
is_collection code = (get_or places code nowhere).collection

-- VariableName::is_implemented
unfoldable pub is_implemented : ℕ → Bool
is_implemented code = (get_or places code nowhere).implemented
